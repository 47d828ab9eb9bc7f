use Rattle.std.proofs.Common.{◌≡◌, ◌+◌, map, drop}
use Rattle.serde_json.specs.View.{view}
use Rattle.ids_reader.specs.Specifications.{specifications_from}
use Rattle.ids_reader.proofs.ReadsLemmas.{behind}
use Rattle.ids_reader.proofs.specification.specifications_of.Given as goal

-- the number of the next specification, and what is still to be read behind what was
abbrev pub invariant-loop-item : goal.invariant-loop-item
invariant-loop-item l =
    (l.number ≡ 1 + l.item-index)
    × (specifications_from l.schema l.schema_id 1 (map view l.items)
    ≡ behind l.found.items (specifications_from l.schema l.schema_id l.number (drop l.item-index (map view l.items))))
