use Rattle.std.proofs.Common.{◌≡◌, take}
use Rattle.audit_core.specs.Rows.{lost}
use Rattle.audit_core.proofs.pairs.lost_pairs.Given as goal

abbrev pub invariant-loop-key : goal.invariant-loop-key
invariant-loop-key l = l.list.items ≡ lost l.specs l.from.model l.to.model (take l.key-index l.keys)
