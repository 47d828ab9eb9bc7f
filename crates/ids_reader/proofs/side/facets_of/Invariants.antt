use Rattle.std.proofs.Common.{◌≡◌, ◌+◌, false, map, drop}
use Rattle.serde_json.specs.View.{view}
use Rattle.ids_reader.specs.Sides.{facets_from}
use Rattle.ids_reader.proofs.ReadsLemmas.{behind}
use Rattle.ids_reader.proofs.side.facets_of.Given as goal

-- the place of the next facet, and what is still to be read behind what was
abbrev pub invariant-loop-item : goal.invariant-loop-item
invariant-loop-item l =
    (l.place ≡ l.first + l.item-index)
    × (facets_from l.schema l.setting l.first false (map view l.items)
    ≡ behind l.found.items (facets_from l.schema l.setting l.place l.closed (drop l.item-index (map view l.items))))
