use Rattle.std.proofs.Common.{◌≡◌, ◌∙◌, ◌+◌, ◌&&◌, ℕ, Bool, not, take, filter, refl}
use Rattle.audit_model.specs.Models.{is_present}
use Rattle.audit_model.specs.Judging.{least, is_dangling}
use Rattle.model_view.proofs.Least.{least_more}
use Rattle.model_view.proofs.missing.newly_missing.Goals as goal
use Rattle.model_view.proofs.missing.newly_missing.Goals.{then-is_newly_missing, else-is_newly_missing}

pub loop-id-preserved : goal.loop-id-preserved
loop-id-preserved c =
    let t : ℕ → Bool = λ to. not (is_present to c.args.new.now.model) && not (is_dangling c.args.old.now.model c.args.instance.now.id to) in
    let same : c.is_newly_missing.result ≡ (not (is_present c.id-item.result c.args.new.now.model) && not (is_dangling c.args.old.now.model c.args.instance.now.id c.id-item.result)) = c.is_newly_missing.ensures ∙ rw (c.in_ok-before.ensures c.id-item.result) refl in
    let e : c.if-is_newly_missing.least ≡ least (filter (λ to. not (is_present to c.args.new.now.model) && not (is_dangling c.args.old.now.model c.args.instance.now.id to)) (take (c.loop-id.id-index + 1) c.deref-id-items.result.now)) =
    elim c.if-is_newly_missing.branch [
      | then-is_newly_missing w ↦ rw (w.least-is, least_more t c.deref-id-items.result.now c.loop-id.id-index c.id-item.result c.loop-id-test.true c.id-item.is, ← same, w.if-is_newly_missing.true, ← c.loop-id.invariant) w.lesser-least.ensures
      | else-is_newly_missing w ↦ rw (w.least-is, least_more t c.deref-id-items.result.now c.loop-id.id-index c.id-item.result c.loop-id-test.true c.id-item.is, ← same, w.if-is_newly_missing.false) c.loop-id.invariant
    ] in
    e
