use Rattle.std.proofs.Common.{◌++◌, subst}
use Rattle.std.specs.List.{flat_map}
use Rattle.std.proofs.lemmas.List.{take_all}
use Rattle.audit_model.specs.Paths.{source_path}
use Rattle.closure_walk.specs.Walking.{SameKeys}
use Rattle.facet_paths.proofs.Same.{same_next}
use Rattle.facet_relations.proofs.Whole.{references_more}
use Rattle.facet_relations.proofs.classification.weigh_references.Goals as goal

pub loop-id-preserved : goal.loop-id-preserved
loop-id-preserved g c = record {
  all = references_more c.args.schema.now (g.L.Look.seen c.args.look.now) c.args.facet.now c.args.ids.now c.loop-id.id-index c.id-item.result c.loop-id.all c.in_ok-one.one c.either-all.result
      c.loop-id-test.true c.id-item.is c.loop-id.invariant.all c.in_ok-one.ensures.weighed c.either-all.ensures;
  reads = same_next (λ x. (source_path c.args.schema.now x).keys (g.L.Look.seen c.args.look.now)) c.args.ids.now c.loop-id.id-index c.id-item.result c.args.reads.now.items c.loop-id.reads.items
      c.weigh_reference.new.reads.items c.loop-id-test.true c.id-item.is c.loop-id.invariant.reads c.in_ok-one.ensures.reads;
}

pub returns-clause-reads : goal.returns-clause-reads
returns-clause-reads g c =
    subst (λ xs. SameKeys c.loop-id.reads.items (c.args.reads.now.items ++ flat_map (λ x. (source_path c.args.schema.now x).keys (g.L.Look.seen c.args.look.now)) xs))
    (take_all c.loop-id.id-index c.args.ids.now c.loop-id-test.false) c.loop-id.invariant.reads
