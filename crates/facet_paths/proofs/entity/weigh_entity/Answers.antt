use Rattle.std.proofs.Common.{List, [], ◌++◌, subst}
use Rattle.ifc_base.specs.declared.key.Key.{Key}
use Rattle.audit_model.specs.Verdicts.{seen_for}
use Rattle.closure_walk.specs.Walking.{SameKeys}
use Rattle.facet_paths.proofs.Same.{same_after}
use Rattle.facet_paths.proofs.Elements.{entity_looked}
use Rattle.facet_paths.proofs.entity.weigh_entity.Goals as goal

pub returns-clause-holds : goal.returns-clause-holds
returns-clause-holds g c = c.in_ok-holds.ensures.answer_is

pub returns-clause-reads : goal.returns-clause-reads
returns-clause-reads g c =
    let s = c.args.schema.now in
    let v = g.L.Look.seen c.args.look.now in
    let ks : List Key = (seen_for s c.args.facet.now.predefined c.args.elem).keys v in
    let looked : SameKeys c.look_at_entity.new.reads.items (c.new-own.result.items ++ ks) = entity_looked s v c.args.facet.now c.args.elem c.in_ok-holds.holds c.new-own.result.items c.look_at_entity.new.reads.items c.in_ok-holds.ensures in
    let h : SameKeys c.look_at_entity.new.reads.items ([] ++ ks) = subst (λ xs. SameKeys c.look_at_entity.new.reads.items (xs ++ ks)) c.new-own.ensures.items looked in
    same_after _ c.args.reads.now c.look_at_entity.new.reads.items ks (rw c.as_slice.ensures.value at c.in_ok-append_keys.ensures.ok) h
