use Rattle.std.proofs.Common.{◌++◌, subst}
use Rattle.std.specs.List.{flat_map}
use Rattle.std.proofs.lemmas.List.{take_all}
use Rattle.audit_model.specs.Verdicts.{weigh}
use Rattle.closure_walk.specs.Walking.{SameKeys}
use Rattle.facet_paths.proofs.Same.{same_next}
use Rattle.pair_eval.proofs.Steps.{holds_more}
use Rattle.pair_eval.proofs.facets.all_hold.Goals as goal

pub loop-facet-preserved : goal.loop-facet-preserved
loop-facet-preserved g c =
    let s = c.args.schema.now in
    let v = g.L.Look.seen c.args.look.now in
    record {
      holds = holds_more (λ f. (weigh s f c.args.elem).answer v) c.args.facets.now c.loop-facet.facet-index c.facet-item.result c.in_ok-weighed.weighed c.loop-facet.all c.hold_both-all.result
          c.loop-facet-test.true c.facet-item.is c.loop-facet.invariant.holds c.in_ok-weighed.ensures.answer_is c.hold_both-all.ensures;
      reads = same_next (λ f. (weigh s f c.args.elem).keys v) c.args.facets.now c.loop-facet.facet-index c.facet-item.result c.args.reads.now c.loop-facet.reads c.weigh_facet.new.reads
          c.loop-facet-test.true c.facet-item.is c.loop-facet.invariant.reads c.in_ok-weighed.ensures.reads_same;
    }

pub returns-clause-reads : goal.returns-clause-reads
returns-clause-reads g c =
    subst (λ fs. SameKeys c.loop-facet.reads (c.args.reads.now ++ flat_map (λ f. (weigh c.args.schema.now f c.args.elem).keys (g.L.Look.seen c.args.look.now)) fs))
    (take_all c.loop-facet.facet-index c.args.facets.now c.loop-facet-test.false) c.loop-facet.invariant.reads
