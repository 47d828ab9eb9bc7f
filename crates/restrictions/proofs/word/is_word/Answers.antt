use Rattle.restrictions.proofs.AdmitLaws.{is_word}
use Rattle.restrictions.proofs.word.is_word.Goals as goal

pub returns : goal.returns
returns c = is_word _ _ _ c.requires c.is.ensures
