use Rattle.std.proofs.Common.{◌≡◌, ◌∙◌, List, None, Some, sym, subst}
use Rattle.std.proofs.lemmas.Bool.{le-ltb, lt-ltb}
use Rattle.ifc_base.specs.Refusals.{IfFault}
use Rattle.audit_model.specs.declared.commit.Edit.{Edit}
use Rattle.audit_model.specs.Judging.{judge}
use Rattle.audit_model.proofs.Inserting.{judge_full}
use Rattle.inverse_index.specs.Log.{last_in}
use Rattle.model_view.specs.Views.{AreAccepted}
use Rattle.commit_rules.proofs.Doable.{doable}
use Rattle.commit_rules.proofs.Whole.{by_dangling, edits_refuse}
use Rattle.commit_rules.proofs.judging.judge.Goals as goal

pub returns-then-revision-limits-clause-refused : goal.returns-then-revision-limits-clause-refused
returns-then-revision-limits-clause-refused g c =
    judge_full c.args.schema.now c.args.limits c.args.revision (last_in c.args.changes.now) c.args.base (g.L.Look.model c.args.look.now) c.args.edits.now (le-ltb c.args.revision c.args.limits.revisions c.if-revision-limits.true)

pub returns-in-Err-clause-refused : goal.returns-in-Err-clause-refused
returns-in-Err-clause-refused g c =
    let m = g.L.Look.model c.args.look.now in
    subst (λ (es : List Edit). IfFault c.in-Err.refusal (λ why. judge c.args.schema.now c.args.limits c.args.revision (last_in c.args.changes.now) c.args.base m es ≡ Some why)) c.as_slice-edits.ensures
    (edits_refuse c.args.schema.now c.args.limits c.args.revision (last_in c.args.changes.now) c.args.base m c.as_slice-edits.result.now (lt-ltb c.args.revision c.args.limits.revisions c.if-revision-limits.false) c.in-Err.refusal c.in-Err.ensures.refused)

pub returns-in-Some-clause-refused : goal.returns-in-Some-clause-refused
returns-in-Some-clause-refused g c =
    let m = g.L.Look.model c.args.look.now in
    subst (λ (es : List Edit). judge c.args.schema.now c.args.limits c.args.revision (last_in c.args.changes.now) c.args.base m es ≡ Some c.in-Some.refusal) c.as_slice-edits.ensures
    (by_dangling c.args.schema.now c.args.limits c.args.revision (last_in c.args.changes.now) c.args.base m c.as_slice-edits.result.now (lt-ltb c.args.revision c.args.limits.revisions c.if-revision-limits.false) (Some c.in-Some.refusal) c.in-Ok.ensures.accepted (sym c.in_ok-refusal.ensures.least ∙ c.in-Some.is))

pub returns-clause-accepted : goal.returns-clause-accepted
returns-clause-accepted g c =
    let m = g.L.Look.model c.args.look.now in
    subst (λ (es : List Edit). judge c.args.schema.now c.args.limits c.args.revision (last_in c.args.changes.now) c.args.base m es ≡ None) c.as_slice-edits.ensures
    (by_dangling c.args.schema.now c.args.limits c.args.revision (last_in c.args.changes.now) c.args.base m c.as_slice-edits.result.now (lt-ltb c.args.revision c.args.limits.revisions c.if-revision-limits.false) None c.in-Ok.ensures.accepted (sym c.in_ok-refusal.ensures.least ∙ c.in-None.is))

pub returns-clause-doable : goal.returns-clause-doable
returns-clause-doable g c =
    let m = g.L.Look.model c.args.look.now in
    subst (λ (es : List Edit). AreAccepted c.args.schema.now m es) c.as_slice-edits.ensures
    (doable c.args.schema.now c.args.limits (last_in c.args.changes.now) c.args.base 1 m c.as_slice-edits.result.now c.in-Ok.ensures.accepted)
