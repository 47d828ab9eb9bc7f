use Rattle.std.proofs.Common.{List, [], ◌++◌, subst}
use Rattle.ifc_base.specs.declared.key.Key.{Key}
use Rattle.audit_model.specs.declared.facet.Facet.TheVariants.{Material}
use Rattle.audit_model.specs.Verdicts.{weigh}
use Rattle.closure_walk.specs.Walking.{SameKeys}
use Rattle.facet_paths.proofs.Same.{same_after}
use Rattle.facet_relations.proofs.material.weigh_material.Goals as goal

pub returns-clause-reads : goal.returns-clause-reads
returns-clause-reads g c =
    let ks : List Key = (weigh c.args.schema.now (Material c.args.facet.now) c.args.elem).keys (g.L.Look.seen c.args.look.now) in
    let h : SameKeys c.look_and_weigh.new.reads.items ([] ++ ks) = subst (λ xs. SameKeys c.look_and_weigh.new.reads.items (xs ++ ks)) c.new-own.ensures.items c.in_ok-weighed.ensures.reads_same in
    same_after _ c.args.reads.now c.look_and_weigh.new.reads.items ks (rw c.as_slice.ensures.value at c.in_ok-append_keys.ensures.ok) h
