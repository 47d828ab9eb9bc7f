use Rattle.std.proofs.Common.{[]}
use Rattle.ifc_base.specs.declared.key.Role.TheVariants as role
use Rattle.audit_model.specs.Reading.{gather}
use Rattle.audit_model.specs.Hops.{relating_things}
use Rattle.audit_model.specs.Paths.{types}
use Rattle.facet_paths.specs.Reads.{Appends}
use Rattle.facet_relations.proofs.Whole.{classification_made}
use Rattle.facet_relations.proofs.classification.look_and_weigh.Goals as goal

pub returns : goal.returns
returns g c =
    let s = c.args.schema.now in
    let v = g.L.Look.seen c.args.look.now in
    let given = c.push_relating-2.new.ends.items in
    let ids = c.push_each_relating.new.ends.items in
    let kinds : Appends (types s c.args.elem) v [] c.push_relating.new.ends.items c.args.reads.now.items c.push_relating.new.reads.items = rw c.new-types.ensures.items at c.in_ok-push_relating.ensures in
    let own : Appends (relating_things s role.Classification c.args.elem) v [] given c.push_relating.new.reads.items c.push_relating-2.new.reads.items = rw c.new-given.ensures.items at c.in_ok-push_relating-2.ensures in
    let theirs : Appends (gather (relating_things s role.Classification) c.push_relating.new.ends.items) v [] ids c.push_relating-2.new.reads.items c.push_each_relating.new.reads.items
    = rw (c.new-inherited.ensures.items, c.as_slice-kinds.ensures.value) at c.in_ok-push_each_relating.ensures in
    classification_made s v c.args.elem c.args.facet.now c.push_relating.new.ends.items given ids c.in_ok-weighed.weighed
    c.args.reads.now.items c.push_relating.new.reads.items c.push_relating-2.new.reads.items c.push_each_relating.new.reads.items c.weigh_own_or.new.reads.items kinds own theirs
    (rw (c.as_slice-own.ensures.value, c.as_slice.ensures.value) at c.in_ok-weighed.ensures.weighed) (rw (c.as_slice-own.ensures.value, c.as_slice.ensures.value) at c.in_ok-weighed.ensures.reads)
