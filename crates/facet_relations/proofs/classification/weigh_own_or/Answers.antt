use Rattle.std.proofs.Common.{◌++◌, ap, subst, ◌∙◌}
use Rattle.audit_model.specs.Paths.{source_path}
use Rattle.audit_model.specs.Reading.{visit}
use Rattle.closure_walk.specs.Walking.{SameKeys}
use Rattle.facet_paths.proofs.Joins.{same_join}
use Rattle.facet_relations.specs.Held.{references_weighed}
use Rattle.facet_relations.proofs.Whole.{none_given, some_given, none_looked}
use Rattle.facet_relations.proofs.classification.weigh_own_or.Goals as goal

pub returns-then-is_empty-clause-weighed : goal.returns-then-is_empty-clause-weighed
returns-then-is_empty-clause-weighed g c =
    let s = c.args.schema.now in
    let v = g.L.Look.seen c.args.look.now in
    c.in_ok-weighed.ensures.weighed ∙ ap (references_weighed s c.args.facet.now) (none_given (λ x. (source_path s x).answer v) c.args.given.now ((visit (source_path s) c.args.inherited.now).answer v) c.is_empty.result c.is_empty.ensures c.if-is_empty.true)

pub returns-then-is_empty-clause-reads : goal.returns-then-is_empty-clause-reads
returns-then-is_empty-clause-reads g c =
    let s = c.args.schema.now in
    let v = g.L.Look.seen c.args.look.now in
    subst (λ ks. SameKeys c.weigh_references.new.reads.items (c.args.reads.now.items ++ (ks ++ (visit (source_path s) c.args.inherited.now).keys v)))
    (none_looked (λ x. (source_path s x).keys v) c.args.given.now c.is_empty.result c.is_empty.ensures c.if-is_empty.true) c.in_ok-weighed.ensures.reads

pub returns-clause-weighed : goal.returns-clause-weighed
returns-clause-weighed g c =
    let s = c.args.schema.now in
    let v = g.L.Look.seen c.args.look.now in
    c.in_ok-weighed-2.ensures.weighed ∙ ap (references_weighed s c.args.facet.now) (some_given (λ x. (source_path s x).answer v) c.args.given.now ((visit (source_path s) c.args.inherited.now).answer v) c.is_empty.result c.is_empty.ensures c.if-is_empty.false)

pub returns-clause-reads : goal.returns-clause-reads
returns-clause-reads g c =
    let s = c.args.schema.now in
    let v = g.L.Look.seen c.args.look.now in
    same_join c.args.reads.now.items c.weigh_references-2.new.reads.items c.look_at_sources.new.reads.items ((visit (source_path s) c.args.given.now).keys v) ((visit (source_path s) c.args.inherited.now).keys v)
    c.in_ok-weighed-2.ensures.reads c.in_ok-look_at_sources.ensures
