use Rattle.std.proofs.Common.{◌≡◌, [], take}
use Rattle.audit_model.specs.Ascending.{union}
use Rattle.facet_paths.proofs.path.in_order.Given as goal

abbrev pub invariant-loop-id : goal.invariant-loop-id
invariant-loop-id l = l.members.keys ≡ union [] (take l.id-index l.ids)
