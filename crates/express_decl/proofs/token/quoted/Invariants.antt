use Rattle.std.proofs.Common.{◌≡◌, false, length}
use Rattle.reading.specs.Codes.{codes_of}
use Rattle.express_decl.specs.Tokens.{quoted}
use Rattle.express_decl.proofs.token.quoted.Given as goal

abbrev pub invariant-loop-code : goal.invariant-loop-code
invariant-loop-code l = quoted l.quote (codes_of l.fn.start) l.cursor ≡ quoted false (codes_of l.fn.start) l.fn.cursor

abbrev pub decreases-loop-code : goal.decreases-loop-code
decreases-loop-code l = length l.cursor
