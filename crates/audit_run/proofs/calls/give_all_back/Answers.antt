use Rattle.std.proofs.Common.{◌∙◌, List, [], ◌∷◌, ap}
use Rattle.audit_model.proofs.Tests.{Each-weaker}
use Rattle.std.proofs.lemmas.List.{append-nil, append_assoc}
use Rattle.audit_model.specs.declared.step.StepRec.{StepRec}
use Rattle.audit_model.specs.declared.step.Call.TheVariants.{GiveBack}
use Rattle.audit_model.specs.declared.step.Reply.TheVariants.{Back}
use Rattle.audit_run.proofs.HoldLaws.{LeavesOut, Differs, all_taken, parted, return_leaves}
use Rattle.audit_run.proofs.calls.give_all_back.Goals as goal

pub give_back-requires : goal.give_back-requires
give_back-requires c =
    let taken = rw c.in-Some.ensures.items at c.loop-taken.invariant.taken in
    (parted c.loop-taken.core.ground c.loop-taken.core.history c.pop.new.self.items c.in-Some.taken [] taken).own.is_out

pub loop-taken-preserved : goal.loop-taken-preserved
loop-taken-preserved c =
    let taken = rw c.in-Some.ensures.items at c.loop-taken.invariant.taken in
    let p = parted c.loop-taken.core.ground c.loop-taken.core.history c.pop.new.self.items c.in-Some.taken [] taken in
    let q = rw (append-nil c.pop.new.self.items) at p in
    let done = c.loop-taken.invariant.returned.0 in
    let e : StepRec = record { actor = c.in-Some.taken.actor; call = GiveBack c.in-Some.taken.claim.number; reply = Back } in
    record {
      ground = c.give_back.ensures.ground ∙ c.loop-taken.invariant.ground;
      legal = rw (c.give_back.ensures.ground, c.give_back.ensures.history) (c.give_back.ensures.lawful, c.loop-taken.invariant.legal);
      taken = rw (c.give_back.ensures.ground, c.give_back.ensures.history)
          (all_taken c.loop-taken.core.ground c.loop-taken.core.history e c.pop.new.self.items c.loop-taken.invariant.legal
          (Each-weaker (Differs c.in-Some.taken.claim.number) (LeavesOut c.loop-taken.core.history e) (λ t d. return_leaves c.loop-taken.core.history c.in-Some.taken.actor c.in-Some.taken.claim.number t d) c.pop.new.self.items q.differ) q.rest);
      returned = (
        c.in-Some.taken ∷ done,
        (
          c.loop-taken.invariant.returned.1.0 ∙ rw c.in-Some.ensures.items (append_assoc c.pop.new.self.items (c.in-Some.taken ∷ []) done),
          c.give_back.ensures.history ∙ ap (λ (k : List StepRec). e ∷ k) c.loop-taken.invariant.returned.1.1,
        ),
      );
    }
