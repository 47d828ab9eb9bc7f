use Rattle.std.proofs.Common.{◌≡◌, length}
use Rattle.std.specs.Char.{to_ascii_uppercase}
use Rattle.p21_read.specs.Words.{is_name, gather}
use Rattle.p21_read.proofs.word.rest_of_name.Given as goal

abbrev pub invariant-loop-code : goal.invariant-loop-code
invariant-loop-code l = gather is_name to_ascii_uppercase l.fn.name l.fn.cursor ≡ gather is_name to_ascii_uppercase l.name l.cursor

abbrev pub decreases-loop-code : goal.decreases-loop-code
decreases-loop-code l = length l.cursor
