use Rattle.std.proofs.Common.{◌≡◌, ◌+◌, length, chars}
use Rattle.xsd_pattern.proofs.pattern.is_short.Given as goal

abbrev pub invariant-loop : goal.invariant-loop
invariant-loop l = length (chars l.text) ≡ length l.cursor + l.counter
