use Rattle.std.proofs.Common.{◌≡◌, length}
use Rattle.express_decl.specs.Tokens.{tail_remark}
use Rattle.express_decl.proofs.remark.tail_remark.Given as goal

abbrev pub invariant-loop-code : goal.invariant-loop-code
invariant-loop-code l = tail_remark l.cursor ≡ tail_remark l.fn.cursor

abbrev pub decreases-loop-code : goal.decreases-loop-code
decreases-loop-code l = length l.cursor
