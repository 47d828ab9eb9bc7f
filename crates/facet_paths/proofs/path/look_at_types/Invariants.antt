use Rattle.std.proofs.Common.{◌≡◌, ◌++◌, take}
use Rattle.std.specs.List.{flat_map}
use Rattle.audit_model.specs.Paths.{types}
use Rattle.facet_paths.proofs.path.look_at_types.Given as goal

abbrev pub invariant-loop-id : goal.invariant-loop-id
invariant-loop-id g l = l.reads.items ≡ l.initial.reads.items ++ flat_map (λ n. (types l.schema n).keys (g.L.Look.seen l.look)) (take l.id-index l.ids)
