use Rattle.facet_paths.proofs.Empty.{empty_text}
use Rattle.facet_paths.proofs.texts.is_empty.Goals as goal

pub returns : goal.returns
returns c = empty_text _ _ _ c.as_str.ensures.bytes c.as_str.ensures.chars c.is_empty.ensures
