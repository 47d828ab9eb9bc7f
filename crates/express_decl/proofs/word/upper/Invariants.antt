use Rattle.std.proofs.Common.{◌≡◌, take, map}
use Rattle.std.specs.Char.{to_ascii_uppercase}
use Rattle.express_decl.proofs.word.upper.Given as goal

abbrev pub invariant-loop-byte : goal.invariant-loop-byte
invariant-loop-byte l = l.name ≡ map to_ascii_uppercase (take l.byte-index l.word)
