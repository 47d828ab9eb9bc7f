use Rattle.std.proofs.Common.{◌≡◌, ◌∙◌, ap, sym}
use Rattle.model_view.specs.Views.{ClaimView, FindingView}
use Rattle.model_view.specs.Answers.{delivery_told}
use Rattle.audit_run.specs.declared.calls.Act.TheVariants as act
use Rattle.audit_run.specs.Holding.{claim_of, taken_as, taken_by}
use Rattle.audit_run.proofs.ActLaws.{give_done, give_back_done, give_none, none_held}
use Rattle.audit_run.proofs.Firsts.{none_removed}
use Rattle.audit_run.proofs.PlayLaws.{adds_on, out_of, played_none, unchanged_self, true_finding, gave, gave_back, gave_back_after}
use Rattle.audit_run.proofs.calls.give.Goals as goal
use Rattle.audit_run.proofs.calls.give.Goals.{in-Ok+in-Ok-deliver, in-Ok+in-Err-deliver, in-Err}

pub assess-requires-clause-index : goal.assess-requires-clause-index
assess-requires-clause-index g c =
    let k = rw (← c.hands.view_is) at c.requires.holding in
    rw c.requires.schema (out_of k c.in-Some.ensures.first c.take_claim.ensures.others).own.snapshot_is.index

pub deliver-requires : goal.deliver-requires
deliver-requires g c =
    let k = rw (← c.hands.view_is) at c.requires.holding in
    let p = out_of k c.in-Some.ensures.first c.take_claim.ensures.others in
    let f = rw (c.requires.schema, c.requires.specs) at c.in-Ok.ensures.ok in
    true_finding p.own f

pub give_back-requires : goal.give_back-requires
give_back-requires g c =
    let k = rw (← c.hands.view_is) at c.requires.holding in
    let p = out_of k c.in-Some.ensures.first c.take_claim.ensures.others in
    let f = c.in-Ok.ensures.ok in
    let back = c.in-Err-deliver.ensures.back in
    let claim : c.into_claim.result ≡ c.in-Some.claim = c.into_claim.ensures ∙ ap (λ (x : FindingView). x.claim) back.1 ∙ f.claim_is in
    rw (claim, back.0.history) p.own.is_out

pub give_back-requires-in-Err : goal.give_back-requires-in-Err
give_back-requires-in-Err g c =
    let k = rw (← c.hands.view_is) at c.requires.holding in
    rw c.in-Err.ensures.back (out_of k c.in-Some.ensures.first c.take_claim.ensures.others).own.is_out

pub returns-in_default-clause-play : goal.returns-in_default-clause-play
returns-in_default-clause-play g c =
    let k = rw (← c.hands.view_is) at c.requires.holding in
    let none = none_held (taken_as c.args.actor) c.take_claim.result (claim_of c.args.actor c.hands.inside.claims.items) c.in_default.not-Some c.take_claim.ensures.first in
    rw (c.take_claim.ensures.others, none_removed (taken_by c.args.actor) c.hands.inside.claims.items (sym none))
    (played_none (record { drafts = c.hands.inside.drafts.items; claims = c.hands.inside.claims.items }) (record { actor = c.args.actor; act = act.Give }) (unchanged_self c.args.core.now) k)

pub returns-in_default-clause-acts : goal.returns-in_default-clause-acts
returns-in_default-clause-acts g c =
    let none = none_held (taken_as c.args.actor) c.take_claim.result (claim_of c.args.actor c.hands.inside.claims.items) c.in_default.not-Some c.take_claim.ensures.first in
    rw (← c.hands.view_is, c.take_claim.ensures.others) (give_none c.args.core.now (record { drafts = c.hands.inside.drafts.items; claims = c.hands.inside.claims.items }) c.args.actor none)

pub returns-clause-play : goal.returns-clause-play
returns-clause-play g c =
    let k = rw (← c.hands.view_is) at c.requires.holding in
    let p = out_of k c.in-Some.ensures.first c.take_claim.ensures.others in
    elim c.match-assess.branch [
      | in-Ok+in-Ok-deliver w ↦
          let f = w.in-Ok.ensures.ok in
          rw w.core-is (gave c.args.actor w.in-Ok.finding.claim.number c.in-Some.claim w.in-Ok-deliver.field-0 c.take_claim.new.claims.items k p (ap (λ (x : ClaimView). x.number) f.claim_is) w.in-Ok-deliver.ensures.ok)
      | in-Ok+in-Err-deliver w ↦
          let f = w.in-Ok.ensures.ok in
          let back = w.in-Err-deliver.ensures.back in
          let claim : w.into_claim.result ≡ c.in-Some.claim = w.into_claim.ensures ∙ ap (λ (x : FindingView). x.claim) back.1 ∙ f.claim_is in
          rw w.core-is (gave_back_after act.Give c.args.actor w.into_claim.result.number c.in-Some.claim c.take_claim.new.claims.items tt k p (ap (λ (x : ClaimView). x.number) claim) back.0 w.give_back.ensures)
      | in-Err w ↦ rw w.core-is (gave_back act.Give c.args.actor w.in-Err.claim.number c.in-Some.claim c.take_claim.new.claims.items tt k p (ap (λ (x : ClaimView). x.number) w.in-Err.ensures.back) w.give_back-in-Err.ensures)
    ]

pub returns-clause-acts : goal.returns-clause-acts
returns-clause-acts g c =
    let k = rw (← c.hands.view_is) at c.requires.holding in
    let p = out_of k c.in-Some.ensures.first c.take_claim.ensures.others in
    let first = c.in-Some.ensures.first in
    elim c.match-assess.branch [
      | in-Ok+in-Ok-deliver w ↦
          let f = w.in-Ok.ensures.ok in
          rw (← c.hands.view_is, w.core-is, c.take_claim.ensures.others)
          (give_done (record { drafts = c.hands.inside.drafts.items; claims = c.hands.inside.claims.items }) c.args.actor w.in-Ok.finding.claim.number c.in-Some.claim (delivery_told w.in-Ok-deliver.field-0) first (ap (λ (x : ClaimView). x.number) f.claim_is) p.own.is_out w.in-Ok-deliver.ensures.ok)
      | in-Ok+in-Err-deliver w ↦
          let f = w.in-Ok.ensures.ok in
          let back = w.in-Err-deliver.ensures.back in
          let claim : w.into_claim.result ≡ c.in-Some.claim = w.into_claim.ensures ∙ ap (λ (x : FindingView). x.claim) back.1 ∙ f.claim_is in
          rw (← c.hands.view_is, w.core-is, c.take_claim.ensures.others)
          (give_back_done (record { drafts = c.hands.inside.drafts.items; claims = c.hands.inside.claims.items }) c.args.actor w.into_claim.result.number c.in-Some.claim first (ap (λ (x : ClaimView). x.number) claim) (adds_on back.0 w.give_back.ensures))
      | in-Err w ↦
          rw (← c.hands.view_is, w.core-is, c.take_claim.ensures.others)
          (give_back_done (record { drafts = c.hands.inside.drafts.items; claims = c.hands.inside.claims.items }) c.args.actor w.in-Err.claim.number c.in-Some.claim first (ap (λ (x : ClaimView). x.number) w.in-Err.ensures.back) w.give_back-in-Err.ensures)
    ]
