use Rattle.decimal_fix.proofs.RoundingLaws.{rounds_to_nearest}
use Rattle.decimal_fix.proofs.laws.rounding.Goals as goal

pub returns : goal.returns
returns c = record { nearest = rounds_to_nearest }
