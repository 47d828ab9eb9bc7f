use Rattle.std.proofs.Common.{subst}
use Rattle.std.proofs.lemmas.List.{take_all}
use Rattle.facet_property.specs.Held.{HasNames, properties_of}
use Rattle.facet_property.proofs.Stored.{names_stored}
use Rattle.facet_property.proofs.hiding.names_of.Goals as goal

pub loop-p-preserved : goal.loop-p-preserved
loop-p-preserved c =
    names_stored c.loop-p.names.keys c.insert.new.self.keys (c.as_str.result, c.as_str-in-loop-p.result) c.args.own.now c.loop-p.p-index c.p-item.result c.loop-p-test.true c.p-item.is c.in_ok-insert.ensures.keys
    c.as_str.ensures.bytes c.as_str-in-loop-p.ensures.bytes c.loop-p.invariant

pub returns : goal.returns
returns c = subst (λ ps. HasNames c.loop-p.names.keys (properties_of ps)) (take_all c.loop-p.p-index c.args.own.now c.loop-p-test.false) c.loop-p.invariant
