use Rattle.std.proofs.Common.{◌∙◌, ℕ, List, [], ◌∷◌, refl, sym, ap}
use Rattle.std.proofs.lemmas.List.{append-nil}
use Rattle.audit_model.specs.declared.step.Reply.TheVariants.{Report, Pending}
use Rattle.audit_run.specs.declared.calls.Act.TheVariants as act
use Rattle.audit_run.proofs.PlayLaws.{played_none, holding_on, published, unchanged_self, halted_same}
use Rattle.audit_run.proofs.calls.publish.Goals as goal

pub returns-then-is_err-clause-play : goal.returns-then-is_err-clause-play
returns-then-is_err-clause-play c = ([], (c.reserve.ensures.items ∙ sym (append-nil c.args.texts.now.items), played_none c.args.hands.now (record { actor = c.args.actor; act = act.Publish }) (unchanged_self c.args.core.now) c.requires))

pub returns-in-Ok-Report-clause-play : goal.returns-in-Ok-Report-clause-play
returns-in-Ok-Report-clause-play c =
    let adds = rw c.in-Ok-Report.field-0-is at c.in-Ok-Report.ensures.ok in
    let report = rw c.in-Ok-Report.field-0-is at c.in-Ok-Report.ensures.report in
    (c.in-Ok-Report.text ∷ [], (c.push_reserved.ensures.items ∙ rw c.reserve.ensures.items refl, published c.args.actor (Report c.in-Ok-Report.field-0-0) (c.in-Ok-Report.text ∷ []) c.requires adds (ap (λ (t : List ℕ). t ∷ []) (sym report))))

pub returns-in-Ok-Pending-clause-play : goal.returns-in-Ok-Pending-clause-play
returns-in-Ok-Pending-clause-play c =
    let adds = rw c.in-Ok-Pending.field-0-is at c.in-Ok-Pending.ensures.ok in
    ([], (c.reserve.ensures.items ∙ sym (append-nil c.args.texts.now.items), published c.args.actor (Pending c.in-Ok-Pending.field-0-0) [] c.requires adds refl))

pub returns-in-Err-clause-play : goal.returns-in-Err-clause-play
returns-in-Err-clause-play c =
    let same = halted_same 1 c.in-Err.field-0 c.in-Err.ensures.halted in
    ([], (c.reserve.ensures.items ∙ sym (append-nil c.args.texts.now.items), played_none c.args.hands.now (record { actor = c.args.actor; act = act.Publish }) same (holding_on same c.requires)))
