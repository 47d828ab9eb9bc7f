use Rattle.std.proofs.Common.{◌≡◌, ◌∙◌, ap, sym, subst}
use Rattle.audit_model.specs.Models.{IsModel}
use Rattle.model_view.specs.Dangles.{least_from, missing_at}
use Rattle.model_view.specs.Views.{ModelView}
use Rattle.model_view.proofs.Doing.{keeps_of}
use Rattle.model_view.proofs.Covering.{none_found, not_lost, one_found}
use Rattle.model_view.proofs.missing.dangling.Goals as goal

pub returns-in_default : goal.returns-in_default
returns-in_default c =
    let m = c.args.old.now.model in
    let n = c.args.new.now.model in
    let before : c.content-before.result.now.model ≡ c.args.old.now.model = c.content-before.ensures.model in
    let now : c.content-after.result.now.model ≡ c.args.new.now.model = ap (λ (v : ModelView). v.model) c.content-after.ensures in
    let after : IsModel c.args.new.now.model = subst IsModel now c.ascends.ensures in
    let keeps = keeps_of c.args.old.now.model c.args.new.now.model c.args.edits.now c.requires.edited in
    record { least = none_found m n c.args.edits.now after keeps c.dangling_is_least.ensures (sym (c.in_ok-from.ensures ∙ ap (λ x. least_from x c.content-after.result.now.model c.args.edits.now) before ∙ ap (λ y. least_from m y c.args.edits.now) now) ∙ c.in_default.is) }

pub returns-in-Some-2 : goal.returns-in-Some-2
returns-in-Some-2 c =
    let m = c.args.old.now.model in
    let n = c.args.new.now.model in
    let before : c.content-before.result.now.model ≡ c.args.old.now.model = c.content-before.ensures.model in
    let now : c.content-after.result.now.model ≡ c.args.new.now.model = ap (λ (v : ModelView). v.model) c.content-after.ensures in
    let after : IsModel c.args.new.now.model = subst IsModel now c.ascends.ensures in
    let keeps = keeps_of c.args.old.now.model c.args.new.now.model c.args.edits.now c.requires.edited in
    record { least = one_found m n c.args.edits.now after keeps c.dangling_is_least.ensures c.in-Some.from c.in-Some-2.to (sym (c.in_ok-from.ensures ∙ ap (λ x. least_from x c.content-after.result.now.model c.args.edits.now) before ∙ ap (λ y. least_from m y c.args.edits.now) now) ∙ c.in-Some.is) (sym (c.in_ok-to.ensures ∙ ap (λ x. missing_at x c.content-after.result.now.model c.in-Some.from) before ∙ ap (λ y. missing_at m y c.in-Some.from) now) ∙ c.in-Some-2.is) }

pub returns-in-None : goal.returns-in-None
returns-in-None c =
    let m = c.args.old.now.model in
    let n = c.args.new.now.model in
    let before : c.content-before.result.now.model ≡ c.args.old.now.model = c.content-before.ensures.model in
    let now : c.content-after.result.now.model ≡ c.args.new.now.model = ap (λ (v : ModelView). v.model) c.content-after.ensures in
    let after : IsModel c.args.new.now.model = subst IsModel now c.ascends.ensures in
    let keeps = keeps_of c.args.old.now.model c.args.new.now.model c.args.edits.now c.requires.edited in
    absurd (not_lost m n c.args.edits.now after keeps c.dangling_is_least.ensures c.in-Some.from (sym (c.in_ok-from.ensures ∙ ap (λ x. least_from x c.content-after.result.now.model c.args.edits.now) before ∙ ap (λ y. least_from m y c.args.edits.now) now) ∙ c.in-Some.is) (sym (c.in_ok-to.ensures ∙ ap (λ x. missing_at x c.content-after.result.now.model c.in-Some.from) before ∙ ap (λ y. missing_at m y c.in-Some.from) now) ∙ c.in-None.is))
