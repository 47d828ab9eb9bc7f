use Rattle.std.proofs.Common.{map, sym, ap, ◌∙◌}
use Rattle.std.specs.Option.{option_and_then, option_or}
use Rattle.std.proofs.lemmas.Simd.{map-map}
use Rattle.audit_model.specs.Facets.{own_predefined, first_there}
use Rattle.facet_paths.proofs.predefined.predefined_of.Goals as goal

pub returns-in-None : goal.returns-in-None
returns-in-None g c =
    c.first_predefined.ensures
    ∙ sym (ap (λ o. option_or o (first_there (map (option_and_then (own_predefined c.args.schema.now)) (map (g.L.Look.seen c.args.look.now).instance c.args.types.now)))) (sym c.in-None.ensures)
    ∙ ap first_there (map-map (option_and_then (own_predefined c.args.schema.now)) (g.L.Look.seen c.args.look.now).instance c.args.types.now))
