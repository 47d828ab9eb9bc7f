use Rattle.std.proofs.Common.{◌≡◌, ◌++◌, take}
use Rattle.std.specs.List.{flat_map}
use Rattle.facet_property.specs.Held.{properties_of, asked_under}
use Rattle.facet_property.proofs.find.find_all.Given as goal

abbrev pub invariant-loop-id : goal.invariant-loop-id
invariant-loop-id g l = properties_of l.found.items ≡ properties_of l.initial.found.items ++ flat_map (λ i. asked_under l.schema l.facet l.set ((g.L.Look.seen l.look).instance i)) (take l.id-index l.ids)
