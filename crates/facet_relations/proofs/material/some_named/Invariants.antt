use Rattle.std.proofs.Common.{◌≡◌, false, take}
use Rattle.std.specs.List.{list_any}
use Rattle.facet_relations.specs.Held.{material_named_at}
use Rattle.facet_relations.proofs.material.some_named.Given as goal

abbrev pub invariant-loop-id : goal.invariant-loop-id
invariant-loop-id g l = list_any (material_named_at l.schema (g.L.Look.seen l.look) l.condition) (take l.id-index l.ids) ≡ false
