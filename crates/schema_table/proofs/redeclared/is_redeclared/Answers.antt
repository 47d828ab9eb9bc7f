use Rattle.std.proofs.Common.{◌≡◌, ◌∙◌, ap, sym, subst, ◌<◌, length, ℕ, Option, Some, false}
use Rattle.std.specs.Option.{option_map_or, option_and_then}
use Rattle.schema_table.specs.Climbing.{step, chain}
use Rattle.schema_table.proofs.Numbers.{is_whole}
use Rattle.schema_table.proofs.Redeclaring.{has_redeclared, redeclared_start, redeclared_next}
use Rattle.schema_table.proofs.redeclared.is_redeclared.Goals as goal

pub loop-at-init : goal.loop-at-init
loop-at-init c =
    let start = redeclared_start c.args.entities.now (is_whole c.args.entities.now _ c.requires.faultless) c.args.links.now c.requires.links c.args.attr.now c.args.number c.requires.inside in
    subst (λ (o : Option ℕ). (has_redeclared c.args.entities.now c.args.attr.now (Some c.args.number) ≡ option_map_or (λ y. has_redeclared c.args.entities.now c.args.attr.now (Some y)) o false) × ((y : ℕ) → o ≡ Some y → y < length c.args.entities.now)) (sym c.step-at.ensures) start

pub loop-at-smaller : goal.loop-at-smaller
loop-at-smaller c =
    let t = redeclared_next c.args.entities.now (is_whole c.args.entities.now _ c.requires.faultless) c.args.parents.now c.args.links.now c.requires.parents c.requires.links c.args.attr.now c.in-Some.found (c.loop-at.invariant.1 c.in-Some.found c.in-Some.is) (sym c.if-redeclares_this.ensures) in
    let next = c.further-at.ensures ∙ ap (option_and_then (step c.args.links.now)) c.step.ensures in
    let long = λ (o : Option ℕ). option_map_or (λ (y : ℕ). length (chain c.args.parents.now (length c.args.entities.now) (Some y))) o 0 in
    subst (λ (o : Option ℕ). long c.further-at.result < long o) (sym c.in-Some.is) (subst (λ (o : Option ℕ). long o < long (Some c.in-Some.found)) (sym next) t.shorter)

pub loop-at-preserved : goal.loop-at-preserved
loop-at-preserved c =
    let t = redeclared_next c.args.entities.now (is_whole c.args.entities.now _ c.requires.faultless) c.args.parents.now c.args.links.now c.requires.parents c.requires.links c.args.attr.now c.in-Some.found (c.loop-at.invariant.1 c.in-Some.found c.in-Some.is) (sym c.if-redeclares_this.ensures) in
    let next = c.further-at.ensures ∙ ap (option_and_then (step c.args.links.now)) c.step.ensures in
    let has = λ (o : Option ℕ). option_map_or (λ (y : ℕ). has_redeclared c.args.entities.now c.args.attr.now (Some y)) o false in
    (c.loop-at.invariant.0 ∙ ap has c.in-Some.is ∙ t.same ∙ ap has (sym next), λ y e. t.inside y (sym next ∙ e))
