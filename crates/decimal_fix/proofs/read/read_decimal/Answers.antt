use Rattle.decimal_fix.proofs.NumeralRelation.{found_is}
use Rattle.decimal_fix.proofs.ReadingLaws.{in_range_is}
use Rattle.decimal_fix.proofs.read.read_decimal.Goals as goal

pub returns-clause-found : goal.returns-clause-found
returns-clause-found c = found_is c.args.text.now c.read.result c.read.ensures

pub returns-clause-in_range : goal.returns-clause-in_range
returns-clause-in_range c = in_range_is c.args.text.now c.read.result c.read.ensures
