use Rattle.std.proofs.Common.{◌≡◌, take}
use Rattle.dirty_board.specs.Tallying.{having}
use Rattle.audit_core.specs.Rows.{taken_out}
use Rattle.audit_core.proofs.claims.take_out_all.Given as goal

abbrev pub invariant-loop-claim : goal.invariant-loop-claim
invariant-loop-claim l = l.board ≡ having (taken_out (take l.claim-index l.claims) l.fn.board.rows) l.fn.board
