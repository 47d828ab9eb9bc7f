use Rattle.std.proofs.Common.{sym}
use Rattle.std.specs.Option.{option_and_then}
use Rattle.audit_model.specs.Facets.{own_predefined}
use Rattle.facet_paths.proofs.Firsts.{first_found, none_more}
use Rattle.facet_paths.proofs.predefined.first_predefined.Goals as goal

pub returns-in-Some : goal.returns-in-Some
returns-in-Some g c =
    sym (first_found (λ i. option_and_then (own_predefined c.args.schema.now) ((g.L.Look.seen c.args.look.now).instance i)) c.args.ids.now c.loop-id.id-index c.id-item.result _ c.loop-id-test.true c.id-item.is c.loop-id.invariant (sym c.in-Some.ensures))

pub loop-id-preserved : goal.loop-id-preserved
loop-id-preserved g c =
    none_more (λ i. option_and_then (own_predefined c.args.schema.now) ((g.L.Look.seen c.args.look.now).instance i)) c.args.ids.now c.loop-id.id-index c.id-item.result c.loop-id-test.true c.id-item.is c.loop-id.invariant (sym c.in_default.ensures)
