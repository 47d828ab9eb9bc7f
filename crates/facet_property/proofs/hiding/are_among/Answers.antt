use Rattle.std.proofs.Common.{◌∙◌}
use Rattle.facet_property.specs.Held.{texts_of}
use Rattle.facet_property.proofs.Stored.{among_texts}
use Rattle.facet_property.proofs.hiding.are_among.Goals as goal

pub returns : goal.returns
returns c = c.has_all-all.ensures ∙ among_texts c.in_ok-texts.texts.keys (texts_of c.args.others.now) c.args.names.now c.in_ok-texts.ensures
