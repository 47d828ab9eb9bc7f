use Rattle.std.proofs.Common.{◌∙◌, ap}
use Rattle.restrictions.specs.Building.{is_length}
use Rattle.restrictions.proofs.BuildLaws.{length_by_bytes}
use Rattle.restrictions.proofs.build.is_length.Goals as goal

pub returns : goal.returns
returns c =
    c.are_length.ensures ∙ ap is_length c.as_bytes.ensures.value ∙ length_by_bytes _ c.args.text.now c.as_str.ensures.bytes c.as_str.ensures.chars
