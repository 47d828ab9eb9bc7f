use Rattle.std.proofs.Common.{◌++◌, ap, subst, ◌∙◌}
use Rattle.std.specs.List.{flat_map}
use Rattle.std.proofs.lemmas.List.{take_all}
use Rattle.audit_model.specs.Verdicts.{is_met, requirement_met}
use Rattle.closure_walk.specs.Walking.{SameKeys}
use Rattle.facet_paths.proofs.Same.{same_next}
use Rattle.pair_eval.proofs.Numbers.{numbers_more}
use Rattle.pair_eval.proofs.Steps.{requirement_reads}
use Rattle.pair_eval.proofs.requirements.unmet.Goals as goal

pub loop-at-preserved : goal.loop-at-preserved
loop-at-preserved g c =
    let s = c.args.schema.now in
    let v = g.L.Look.seen c.args.look.now in
    let r = c.index-requirements-at.result in
    record {
      numbers = numbers_more (λ r. (requirement_met s c.args.elem r).answer v) c.args.requirements.now c.loop-at.at r c.loop-at.numbers c.push_unmet.new.numbers c.meets.result
          c.loop-at-test.true c.index-requirements-at.is c.loop-at.invariant.numbers (c.meets.ensures ∙ ap (is_met r.cardinality) c.in_ok-weighed.ensures.answer_is) c.in_ok-push_unmet.ensures;
      reads = same_next (λ r. (requirement_met s c.args.elem r).keys v) c.args.requirements.now c.loop-at.at r c.args.reads.now c.loop-at.reads c.weigh_facet.new.reads
          c.loop-at-test.true c.index-requirements-at.is c.loop-at.invariant.reads
          (requirement_reads s c.args.elem v r c.in_ok-weighed.weighed c.loop-at.reads c.weigh_facet.new.reads c.in_ok-weighed.ensures);
    }

pub returns-clause-reads : goal.returns-clause-reads
returns-clause-reads g c =
    subst (λ rs. SameKeys c.loop-at.reads (c.args.reads.now ++ flat_map (λ r. (requirement_met c.args.schema.now c.args.elem r).keys (g.L.Look.seen c.args.look.now)) rs))
    (take_all c.loop-at.at c.args.requirements.now c.loop-at-test.false) c.loop-at.invariant.reads
