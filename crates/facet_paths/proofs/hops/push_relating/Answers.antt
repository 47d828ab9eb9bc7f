use Rattle.audit_model.specs.Reading.{gather}
use Rattle.audit_model.specs.Hops.{hop}
use Rattle.audit_model.specs.Hops.Hop.{Back, Forward}
use Rattle.schema_table.specs.Relationships.{relationship}
use Rattle.std.proofs.Common.{[]}
use Rattle.facet_paths.specs.Reads.{Appends}
use Rattle.facet_paths.proofs.Paths.{relating_made}
use Rattle.facet_paths.proofs.hops.push_relating.Goals as goal

pub returns : goal.returns
returns g c =
    let back : Appends (hop c.args.schema.now (Back c.args.role) c.args.from) (g.L.Look.seen c.args.look.now) [] c.hop_back.new.ends.items c.args.reads.now.items c.hop_back.new.reads.items
    = rw c.new-holders.ensures.items at c.in_ok-hop_back.ensures in
    let forward : Appends (gather (hop c.args.schema.now (Forward (relationship c.args.role).relating)) c.hop_back.new.ends.items) (g.L.Look.seen c.args.look.now) [] c.hop_all.new.ends.items c.hop_back.new.reads.items c.hop_all.new.reads.items
    = rw (c.relating_name.ensures, c.as_slice.ensures.value, c.new-others.ensures.items) at c.in_ok-hop_all.ensures in
    relating_made c.args.schema.now (g.L.Look.seen c.args.look.now) c.args.role c.args.from _ c.hop_all.new.ends.items _ _ _ _ c.hop_all.new.reads.items _ back forward (rw c.as_slice-2.ensures.value at c.in_ok-stand_on.ensures.ends) (rw c.as_slice-2.ensures.value at c.in_ok-stand_on.ensures.reads)
