use Rattle.std.proofs.Common.{◌≡◌, take}
use Rattle.express_decl.proofs.word.written.Given as goal

abbrev pub invariant-loop-byte : goal.invariant-loop-byte
invariant-loop-byte l = l.name ≡ take l.byte-index l.word
