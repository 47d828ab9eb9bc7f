use Rattle.std.proofs.Common.{◌++◌, ap, ◌∙◌}
use Rattle.std.specs.Option.{option_to_list}
use Rattle.restrictions.specs.Admitting.{admits_text}
use Rattle.audit_model.specs.Paths.{set_path}
use Rattle.audit_model.specs.Reading.{visit}
use Rattle.audit_model.specs.Properties.{set_name, properties_in}
use Rattle.facet_property.specs.Held.{is_asked, texts_of}
use Rattle.facet_property.proofs.Asking.{names_spread}
use Rattle.facet_property.proofs.Three.{over_all, over_filtered}
use Rattle.facet_property.proofs.sets.look_at_sets.Goals as goal

pub returns : goal.returns
returns g c =
    let s = c.args.schema.now in
    let v = g.L.Look.seen c.args.look.now in
    record {
      names_are = over_filtered (admits_text c.args.facet.now.set) (λ z. option_to_list (set_name s z)) (λ i. (set_path s i).answer v) _ _ _ _ c.loop-id.invariant.names c.loop-id-test.false
          ∙ ap (λ ns. texts_of c.args.names.now.items ++ ns) (names_spread s c.args.facet.now ((visit (set_path s) c.args.ids.now).answer v));
      found_are = over_filtered (is_asked c.args.facet.now) (properties_in s) (λ i. (set_path s i).answer v) _ _ _ _ c.loop-id.invariant.found c.loop-id-test.false;
      reads_are = over_all (λ i. (set_path s i).keys v) _ _ _ _ c.loop-id.invariant.reads c.loop-id-test.false;
    }
