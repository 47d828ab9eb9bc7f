use Rattle.std.proofs.Common.{[]}
use Rattle.audit_model.specs.Paths.{types}
use Rattle.facet_paths.specs.Reads.{Appends}
use Rattle.facet_paths.proofs.WalkLaws.{kind_walked}
use Rattle.facet_paths.proofs.path.walk_kind.Goals as goal

pub returns : goal.returns
returns g c =
    let s = c.args.schema.now in
    let v = g.L.Look.seen c.args.look.now in
    let kinds : Appends (types s c.args.from) v [] c.push_relating.new.ends.items c.args.reads.now.items c.push_relating.new.reads.items = rw c.new-ends.ensures.items at c.in_ok-push_relating.ensures in
    kind_walked s v c.args.from c.push_relating.new.ends.items c.args.reads.now.items c.push_relating.new.reads.items kinds
