use Rattle.std.proofs.Common.{◌≡◌, Some, take}
use Rattle.ifc_base.specs.declared.key.Key.{Key}
use Rattle.inverse_index.specs.Index.{is_listed}
use Rattle.inverse_index.specs.Gathered.{gathered}
use Rattle.inverse_index.proofs.Passing.{standing}
use Rattle.inverse_index.proofs.gather.gather.Given as goal

abbrev pub invariant-loop-x : goal.invariant-loop-x
invariant-loop-x l = (k : Key) → gathered l.lists k ≡ standing (λ x. is_listed l.schema (Some x) k) (take l.x-index l.instances)
