use Rattle.std.proofs.Common.{◌++◌, subst}
use Rattle.std.specs.List.{flat_map}
use Rattle.std.proofs.lemmas.List.{take_all}
use Rattle.audit_model.specs.Verdicts.{seen_for}
use Rattle.closure_walk.specs.Walking.{SameKeys}
use Rattle.facet_paths.proofs.Same.{same_next}
use Rattle.facet_paths.proofs.Elements.{entity_looked}
use Rattle.facet_partof.proofs.Whole.{kind_more}
use Rattle.facet_partof.proofs.part_of.is_any_of_kind.Goals as goal

pub loop-id-preserved : goal.loop-id-preserved
loop-id-preserved g c =
    let s = c.args.schema.now in
    let v = g.L.Look.seen c.args.look.now in
    record {
      found = kind_more s v c.args.entity.now c.args.ids.now c.loop-id.id-index c.id-item.result c.loop-id.found c.in_ok-one.one c.either-found.result c.loop-id-test.true c.id-item.is c.loop-id.invariant.found c.in_ok-one.ensures.answer_is c.either-found.ensures;
      reads = same_next (λ x. (seen_for s c.args.entity.now.predefined x).keys v) c.args.ids.now c.loop-id.id-index c.id-item.result c.args.reads.now.items c.loop-id.reads.items c.look_at_entity.new.reads.items
          c.loop-id-test.true c.id-item.is c.loop-id.invariant.reads (entity_looked s v c.args.entity.now c.id-item.result c.in_ok-one.one c.loop-id.reads.items c.look_at_entity.new.reads.items c.in_ok-one.ensures);
    }

pub returns-clause-reads : goal.returns-clause-reads
returns-clause-reads g c =
    subst (λ xs. SameKeys c.loop-id.reads.items (c.args.reads.now.items ++ flat_map (λ x. (seen_for c.args.schema.now c.args.entity.now.predefined x).keys (g.L.Look.seen c.args.look.now)) xs))
    (take_all c.loop-id.id-index c.args.ids.now c.loop-id-test.false) c.loop-id.invariant.reads
