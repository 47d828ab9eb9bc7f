use Rattle.facet_relations.proofs.Whole.{members_some}
use Rattle.facet_relations.proofs.material.weigh_members.Goals as goal

pub returns-in_ok-holds-in-Some : goal.returns-in_ok-holds-in-Some
returns-in_ok-holds-in-Some g c =
    members_some c.args.schema.now (g.L.Look.seen c.args.look.now) c.args.facet.now _ c.args.ids.now c.is_empty.result c.in_ok-holds-in-Some.holds c.is_empty.ensures c.if-is_empty.false c.in-Some.is c.in_ok-holds-in-Some.ensures
