use Rattle.std.proofs.Common.{◌≡◌, None, map, take}
use Rattle.std.specs.Option.{option_and_then}
use Rattle.audit_model.specs.Facets.{own_predefined, first_there}
use Rattle.facet_paths.proofs.predefined.first_predefined.Given as goal

abbrev pub invariant-loop-id : goal.invariant-loop-id
invariant-loop-id g l = first_there (map (λ i. option_and_then (own_predefined l.schema) ((g.L.Look.seen l.look).instance i)) (take l.id-index l.ids)) ≡ None
