use Rattle.std.proofs.Common.{rules, ◌∙◌}
use Rattle.reading_tests.proofs.Gaps.{gap_comment, gap_other}
use Rattle.reading_tests.proofs.gap.gap.Goals as goal

pub loop-byte-preserved : goal.loop-byte-preserved
loop-byte-preserved c = c.loop-byte.invariant ∙ gap_comment c.loop-byte.cursor c.slash.new.cursor (search rules)

pub returns-else-byte-eq47-clause-passed : goal.returns-else-byte-eq47-clause-passed
returns-else-byte-eq47-clause-passed c = c.loop-byte.invariant ∙ gap_other c.loop-byte.cursor c.in-Some.byte (search rules) (search rules) (search rules)
