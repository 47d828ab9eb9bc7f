use Rattle.std.proofs.Common.{subst}
use Rattle.std.proofs.lemmas.List.{take_all}
use Rattle.facet_property.specs.Held.{HasTexts, texts_of}
use Rattle.facet_property.proofs.Stored.{text_stored}
use Rattle.facet_property.proofs.hiding.texts_in.Goals as goal

pub loop-name-preserved : goal.loop-name-preserved
loop-name-preserved c =
    text_stored c.loop-name.texts.keys c.insert.new.self.keys c.as_str.result c.args.names.now c.loop-name.name-index c.name-item.result c.loop-name-test.true c.name-item.is c.in_ok-insert.ensures.keys
    c.as_str.ensures.bytes c.loop-name.invariant

pub returns : goal.returns
returns c = subst (λ ns. HasTexts c.loop-name.texts.keys (texts_of ns)) (take_all c.loop-name.name-index c.args.names.now c.loop-name-test.false) c.loop-name.invariant
