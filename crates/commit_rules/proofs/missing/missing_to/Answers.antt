use Rattle.std.proofs.Common.{◌≡◌, ◌+◌, ℕ, Bool, take, filter}
use Rattle.audit_model.specs.Judging.{least}
use Rattle.commit_rules.specs.Dangles.{is_newly_missing}
use Rattle.commit_rules.proofs.Least.{least_more}
use Rattle.commit_rules.proofs.missing.missing_to.Goals as goal
use Rattle.commit_rules.proofs.missing.missing_to.Goals.{then-is_newly_missing, else-is_newly_missing}

pub loop-id-preserved : goal.loop-id-preserved
loop-id-preserved g c =
    let t : ℕ → Bool = is_newly_missing c.args.overlay.now.put (g.L.Look.seen c.args.look.now).instance c.args.instance.now.id in
    let e : c.if-is_newly_missing.least ≡ least (filter (is_newly_missing c.args.overlay.now.put (g.L.Look.seen c.args.look.now).instance c.args.instance.now.id) (take (c.loop-id.id-index + 1) c.deref-id-items.result.now)) =
    elim c.if-is_newly_missing.branch [
      | then-is_newly_missing w ↦ rw (w.least-is, least_more t c.deref-id-items.result.now c.loop-id.id-index c.id-item.result c.loop-id-test.true c.id-item.is, ← c.is_newly_missing.ensures, w.if-is_newly_missing.true, ← c.loop-id.invariant) w.lesser-least.ensures
      | else-is_newly_missing w ↦ rw (w.least-is, least_more t c.deref-id-items.result.now c.loop-id.id-index c.id-item.result c.loop-id-test.true c.id-item.is, ← c.is_newly_missing.ensures, w.if-is_newly_missing.false) c.loop-id.invariant
    ] in
    e
