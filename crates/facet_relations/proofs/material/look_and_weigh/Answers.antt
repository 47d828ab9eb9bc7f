use Rattle.std.proofs.Common.{◌≡◌, [], ◌++◌, subst}
use Rattle.ifc_base.specs.declared.key.Role.TheVariants as role
use Rattle.audit_model.specs.Reading.{gather}
use Rattle.audit_model.specs.Hops.{relating_things}
use Rattle.audit_model.specs.Closures.{closure, most_hops}
use Rattle.audit_model.specs.Paths.{types, forward_by, material_attributes}
use Rattle.closure_walk.specs.Walking.{SameKeys}
use Rattle.facet_paths.specs.Reads.{Appends}
use Rattle.facet_relations.proofs.Whole.{material_made}
use Rattle.facet_relations.proofs.material.look_and_weigh.Goals as goal

pub returns : goal.returns
returns g c =
    let s = c.args.schema.now in
    let v = g.L.Look.seen c.args.look.now in
    let given = c.push_relating-2.new.ends.items in
    let ids = c.push_each_relating.new.ends.items in
    let kinds : Appends (types s c.args.elem) v [] c.push_relating.new.ends.items c.args.reads.now.items c.push_relating.new.reads.items = rw c.new-types.ensures.items at c.in_ok-push_relating.ensures in
    let own : Appends (relating_things s role.Material c.args.elem) v [] given c.push_relating.new.reads.items c.push_relating-2.new.reads.items = rw c.new-given.ensures.items at c.in_ok-push_relating-2.ensures in
    let theirs : Appends (gather (relating_things s role.Material) c.push_relating.new.ends.items) v [] ids c.members_of.new.reads.items c.push_each_relating.new.reads.items
    = rw (c.new-inherited.ensures.items, c.as_slice-2.ensures.value) at c.in_ok-push_each_relating.ensures in
    material_made s v c.args.elem c.args.facet.now c.push_relating.new.ends.items given ids c.in_ok-own.own.items c.in_ok-of_types.of_types.items c.in_ok-weighed.weighed
    c.args.reads.now.items c.push_relating.new.reads.items c.push_relating-2.new.reads.items c.members_of.new.reads.items c.push_each_relating.new.reads.items c.members_of-2.new.reads.items
    kinds own
    (subst (λ xs. c.in_ok-own.own.items ≡ (closure most_hops (forward_by s material_attributes) xs).answer v) c.as_slice.ensures.value c.in_ok-own.ensures.ids)
    (subst (λ xs. SameKeys c.members_of.new.reads.items (c.push_relating-2.new.reads.items ++ (closure most_hops (forward_by s material_attributes) xs).keys v)) c.as_slice.ensures.value c.in_ok-own.ensures.reads)
    theirs
    (subst (λ xs. c.in_ok-of_types.of_types.items ≡ (closure most_hops (forward_by s material_attributes) xs).answer v) c.as_slice-3.ensures.value c.in_ok-of_types.ensures.ids)
    (subst (λ xs. SameKeys c.members_of-2.new.reads.items (c.push_each_relating.new.reads.items ++ (closure most_hops (forward_by s material_attributes) xs).keys v)) c.as_slice-3.ensures.value c.in_ok-of_types.ensures.reads)
    (rw (c.as_slice-4.ensures.value, c.as_slice-5.ensures.value) at c.in_ok-weighed.ensures)
