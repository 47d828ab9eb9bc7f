-- the instances so far, and those that the walk still has, are the model
use Rattle.std.proofs.Common.{◌≡◌, ◌++◌, map}
use Rattle.audit_core.proofs.pairs.instances_of.Given as goal

abbrev pub invariant-loop-entry : goal.invariant-loop-entry
invariant-loop-entry l = map (λ x. x.now) l.list.items ++ map (λ e. e.1) l.entry-iterator ≡ l.snapshot.model
