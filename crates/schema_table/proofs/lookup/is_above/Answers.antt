use Rattle.std.proofs.Common.{◌∙◌, ◌-◌, sym, length}
use Rattle.schema_table.proofs.Lookups.{passed_here, passed_on, passed_none, passed_end}
use Rattle.schema_table.proofs.lookup.is_above.Goals as goal

pub returns-then-number-of : goal.returns-then-number-of
returns-then-number-of c =
    sym (c.loop-step.invariant ∙ passed_here c.args.parents.now (length c.args.parents.now) c.loop-step._step c.args.of c.in-Some.number c.loop-step.at c.loop-step-test.true c.in-Some.is c.if-number-of.true)

pub returns-in-None : goal.returns-in-None
returns-in-None c = sym (c.loop-step.invariant ∙ passed_none c.args.parents.now (length c.args.parents.now - c.loop-step._step) c.args.of c.loop-step.at c.in-None.is)

pub loop-step-preserved : goal.loop-step-preserved
loop-step-preserved c =
    c.loop-step.invariant ∙ passed_on c.args.parents.now (length c.args.parents.now) c.loop-step._step c.args.of c.in-Some.number c.loop-step.at c.step-at.result c.loop-step-test.true c.in-Some.is c.if-number-of.false c.step-at.ensures

pub returns : goal.returns
returns c = sym (c.loop-step.invariant ∙ passed_end c.args.parents.now (length c.args.parents.now) c.loop-step._step c.args.of c.loop-step.at c.loop-step-test.false)
