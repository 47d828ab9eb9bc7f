use Rattle.restrictions.proofs.AdmitLaws.{names_are_texts}
use Rattle.restrictions.proofs.laws.names_are_texts.Goals as goal

pub returns : goal.returns
returns c = names_are_texts
