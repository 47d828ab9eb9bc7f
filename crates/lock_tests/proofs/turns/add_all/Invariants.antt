use Rattle.seen_lock.specs.Lists.{IsFree}
use Rattle.lock_tests.proofs.turns.add_all.Given as goal

abbrev pub invariant-loop-value : goal.invariant-loop-value
invariant-loop-value g l = IsFree l.fn.lock.table.shared.table_id l.fn.seat.number l.seat
