use Rattle.std.proofs.Common.{◌∙◌, sym}
use Rattle.audit_model.specs.Edits.{apply}
use Rattle.commit_rules.proofs.Covering.{none_found, not_lost, one_found}
use Rattle.commit_rules.proofs.missing.dangling.Goals as goal

pub returns-in_default : goal.returns-in_default
returns-in_default g c =
    let m = g.L.Look.model c.args.look.now in
    let k = c.requires.shows in
    record { least = none_found m (apply c.args.schema.now m c.args.edits.now) c.args.edits.now c.args.overlay.now.put (g.L.Look.seen c.args.look.now).instance c.requires.model k.ascending (λ i. g.met.L.Look.shown c.args.look.now i) k.at k.named c.dangling_is_least.ensures (sym c.in_ok-from.ensures ∙ c.in_default.is) }

pub returns-in-Some-2 : goal.returns-in-Some-2
returns-in-Some-2 g c =
    let m = g.L.Look.model c.args.look.now in
    let k = c.requires.shows in
    record { least = one_found m (apply c.args.schema.now m c.args.edits.now) c.args.edits.now c.args.overlay.now.put (g.L.Look.seen c.args.look.now).instance c.requires.model k.ascending (λ i. g.met.L.Look.shown c.args.look.now i) k.at k.named c.dangling_is_least.ensures c.in-Some.from c.in-Some-2.to (sym c.in_ok-from.ensures ∙ c.in-Some.is) (sym c.in_ok-to.ensures ∙ c.in-Some-2.is) }

pub returns-in-None : goal.returns-in-None
returns-in-None g c =
    let m = g.L.Look.model c.args.look.now in
    let k = c.requires.shows in
    absurd (not_lost m (apply c.args.schema.now m c.args.edits.now) c.args.edits.now c.args.overlay.now.put (g.L.Look.seen c.args.look.now).instance c.requires.model k.ascending (λ i. g.met.L.Look.shown c.args.look.now i) k.at k.named c.dangling_is_least.ensures c.in-Some.from (sym c.in_ok-from.ensures ∙ c.in-Some.is) (sym c.in_ok-to.ensures ∙ c.in-None.is))
