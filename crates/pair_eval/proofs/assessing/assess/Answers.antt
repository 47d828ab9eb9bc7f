use Rattle.std.proofs.Common.{false, true, sym, ◌∙◌}
use Rattle.audit_model.specs.declared.verdict.Verdict.TheVariants.{NotApplicable}
use Rattle.pair_eval.proofs.Steps.{assess_is, nothing_read}
use Rattle.pair_eval.proofs.assessing.assess.Goals as goal

pub returns-then-not-applies : goal.returns-then-not-applies
returns-then-not-applies g c =
    let v = g.L.Look.seen c.args.look.now in
    assess_is c.args.schema.now c.args.spec.now c.args.elem v c.args.reads.now c.note.new.reads c.all_hold.new.reads c.all_hold.new.reads false NotApplicable c.in_ok-note.ensures
    (sym c.if-not-applies.true ∙ rw c.as_slice-facets.ensures at c.in_ok-applies.ensures.holds) (rw c.as_slice-facets.ensures at c.in_ok-applies.ensures.reads) (nothing_read NotApplicable v c.all_hold.new.reads)

pub returns : goal.returns
returns g c =
    let v = g.L.Look.seen c.args.look.now in
    assess_is c.args.schema.now c.args.spec.now c.args.elem v c.args.reads.now c.note.new.reads c.all_hold.new.reads c.verdict_where_applicable.new.reads true c.in_ok-verdict.verdict c.in_ok-note.ensures
    (sym c.if-not-applies.false ∙ rw c.as_slice-facets.ensures at c.in_ok-applies.ensures.holds) (rw c.as_slice-facets.ensures at c.in_ok-applies.ensures.reads) (rw c.as_slice-requirements.ensures at c.in_ok-verdict.ensures)
