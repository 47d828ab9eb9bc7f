use Rattle.decimal_fix.proofs.ReadBackLaws.{reads_back}
use Rattle.decimal_fix.proofs.laws.writing_back.Goals as goal

pub returns : goal.returns
returns c = record { reads_back = reads_back }
