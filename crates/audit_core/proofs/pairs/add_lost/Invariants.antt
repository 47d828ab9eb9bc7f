use Rattle.std.proofs.Common.{◌≡◌, ◌++◌, take}
use Rattle.std.specs.Option.{option_copied}
use Rattle.audit_core.specs.Rows.{lost_at}
use Rattle.audit_core.proofs.pairs.add_lost.Given as goal

abbrev pub invariant-loop-spec : goal.invariant-loop-spec
invariant-loop-spec l = l.list.items ≡ l.fn.list.items ++ lost_at (take l.spec-index l.specs) l.id (option_copied l.one) (option_copied l.other)
