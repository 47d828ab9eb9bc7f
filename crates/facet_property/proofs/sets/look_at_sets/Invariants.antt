use Rattle.std.proofs.Common.{◌≡◌, ◌++◌, take}
use Rattle.std.specs.List.{flat_map, filter}
use Rattle.std.specs.Option.{option_to_list}
use Rattle.restrictions.specs.Admitting.{admits_text}
use Rattle.audit_model.specs.Paths.{set_path}
use Rattle.audit_model.specs.Reading.{visit}
use Rattle.audit_model.specs.Properties.{set_name, properties_in}
use Rattle.facet_property.specs.Held.{properties_of, texts_of, is_asked}
use Rattle.facet_property.proofs.sets.look_at_sets.Given as goal

abbrev pub invariant-loop-id : goal.invariant-loop-id
invariant-loop-id g l = record {
  names : texts_of l.names.items ≡ texts_of l.initial.names.items ++ flat_map (λ i. filter (admits_text l.facet.set) (option_to_list (set_name l.schema ((set_path l.schema i).answer (g.L.Look.seen l.look))))) (take l.id-index l.ids);
  found : properties_of l.found.items ≡ properties_of l.initial.found.items ++ flat_map (λ i. filter (is_asked l.facet) (properties_in l.schema ((set_path l.schema i).answer (g.L.Look.seen l.look)))) (take l.id-index l.ids);
  reads : l.reads.items ≡ l.initial.reads.items ++ (visit (set_path l.schema) (take l.id-index l.ids)).keys (g.L.Look.seen l.look);
}
