use Rattle.std.proofs.Common.{◌≡◌, ◌++◌, take, map}
use Rattle.audit_core.proofs.First.{pair_list}
use Rattle.audit_core.proofs.pairs.add_pairs.Given as goal

abbrev pub invariant-loop-instance : goal.invariant-loop-instance
invariant-loop-instance l = l.list.items ≡ l.fn.list.items ++ pair_list l.spec (map (λ x. x.now) (take l.instance-index l.instances))
