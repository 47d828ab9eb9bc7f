use Rattle.std.proofs.Common.{refl, arith}
use Rattle.decimal_fix.proofs.LeadingLaws.{counted, kept}
use Rattle.decimal_fix.proofs.leading.Leading.with.Goals as goal

pub returns-then-self-ge-FULL-clause-leading : goal.returns-then-self-ge-FULL-clause-leading
returns-then-self-ge-FULL-clause-leading c = λ ds is. counted c.args.self _ ds c.args.last is refl refl c.requires.digit

pub returns-clause-leading : goal.returns-clause-leading
returns-clause-leading c = λ ds is. kept c.args.self _ ds c.args.last is (omega (arith, c.from.ensures)) refl c.if-self-ge-FULL.false
