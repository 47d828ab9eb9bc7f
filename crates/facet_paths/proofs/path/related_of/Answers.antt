use Rattle.std.proofs.Common.{[]}
use Rattle.audit_model.specs.Reading.{gather}
use Rattle.audit_model.specs.Hops.{relating_things}
use Rattle.audit_model.specs.Paths.{types}
use Rattle.facet_paths.specs.Reads.{Appends}
use Rattle.facet_paths.proofs.WalkLaws.{related_made}
use Rattle.facet_paths.proofs.path.related_of.Goals as goal

pub returns-clause-ends : goal.returns-clause-ends
returns-clause-ends g c =
    let s = c.args.schema.now in
    let v = g.L.Look.seen c.args.look.now in
    let kinds : Appends (types s c.args.from) v [] c.push_relating.new.ends.items c.args.reads.now.items c.push_relating.new.reads.items = rw c.new-types.ensures.items at c.in_ok-push_relating.ensures in
    let own : Appends (relating_things s c.args.role c.args.from) v [] c.push_relating-2.new.ends.items c.push_relating.new.reads.items c.push_relating-2.new.reads.items = rw c.new-ends.ensures.items at c.in_ok-push_relating-2.ensures in
    let theirs : Appends (gather (relating_things s c.args.role) c.push_relating.new.ends.items) v c.push_relating-2.new.ends.items c.push_each_relating.new.ends.items c.push_relating-2.new.reads.items c.push_each_relating.new.reads.items
    = rw c.as_slice.ensures.value at c.in_ok-push_each_relating.ensures in
    (related_made s v c.args.from c.args.role c.push_relating.new.ends.items c.push_relating-2.new.ends.items c.push_each_relating.new.ends.items c.args.reads.now.items c.push_relating.new.reads.items c.push_relating-2.new.reads.items c.push_each_relating.new.reads.items kinds own theirs).0

pub returns-clause-reads : goal.returns-clause-reads
returns-clause-reads g c =
    let s = c.args.schema.now in
    let v = g.L.Look.seen c.args.look.now in
    let kinds : Appends (types s c.args.from) v [] c.push_relating.new.ends.items c.args.reads.now.items c.push_relating.new.reads.items = rw c.new-types.ensures.items at c.in_ok-push_relating.ensures in
    let own : Appends (relating_things s c.args.role c.args.from) v [] c.push_relating-2.new.ends.items c.push_relating.new.reads.items c.push_relating-2.new.reads.items = rw c.new-ends.ensures.items at c.in_ok-push_relating-2.ensures in
    let theirs : Appends (gather (relating_things s c.args.role) c.push_relating.new.ends.items) v c.push_relating-2.new.ends.items c.push_each_relating.new.ends.items c.push_relating-2.new.reads.items c.push_each_relating.new.reads.items
    = rw c.as_slice.ensures.value at c.in_ok-push_each_relating.ensures in
    (related_made s v c.args.from c.args.role c.push_relating.new.ends.items c.push_relating-2.new.ends.items c.push_each_relating.new.ends.items c.args.reads.now.items c.push_relating.new.reads.items c.push_relating-2.new.reads.items c.push_each_relating.new.reads.items kinds own theirs).1
