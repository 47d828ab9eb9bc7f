use Rattle.std.proofs.Common.{sym, subst, inl, inr}
use Rattle.audit_model.specs.declared.specification.Occurs.{Occurs}
use Rattle.audit_model.specs.declared.specification.Occurs.TheVariants.{Required}
use Rattle.audit_model.specs.declared.verdict.Verdict.TheVariants.{Applicable}
use Rattle.audit_model.specs.Verdicts.{asked_by}
use Rattle.facet_paths.specs.Reads.{Reads}
use Rattle.pair_eval.proofs.Steps.{asked_is}
use Rattle.pair_eval.proofs.requirements.verdict_where_applicable.Goals as goal

pub returns-in_ok-numbers-in-Required : goal.returns-in_ok-numbers-in-Required
returns-in_ok-numbers-in-Required g c =
    let s = c.args.schema.now in
    let v = g.L.Look.seen c.args.look.now in
    let F : Occurs → Type 0 = λ o. Reads (asked_by s o c.args.requirements.now c.args.elem) v (Applicable c.in_ok-numbers-in-Required.numbers) c.args.reads.now c.unmet.new.reads in
    let asked : F Required = asked_is s c.args.requirements.now c.args.elem v c.in_ok-numbers-in-Required.numbers c.args.reads.now c.unmet.new.reads c.in_ok-numbers-in-Required.ensures.numbers c.in_ok-numbers-in-Required.ensures.reads in
    elim c.in-Required.is [ inl e ↦ subst F (sym e) asked | inr e ↦ subst F (sym e) asked ]
