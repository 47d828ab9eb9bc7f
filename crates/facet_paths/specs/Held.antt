-- The entity facet as a reading (IDS 1.0, entity facet).
use Rattle.std.specs.Prelude.{ℕ, Bool}
use Rattle.schema_table.specs.Schema.{Schema}
use Rattle.audit_model.specs.declared.facet.EntityFacet.{EntityFacet}
use Rattle.audit_model.specs.Reading.{Reading, told, ◌>>=◌}
use Rattle.audit_model.specs.Facets.{entity_holds}
use Rattle.audit_model.specs.Verdicts.{seen_for}

-- whether the entity facet holds of the element with this id
abbrev pub entity_weighed : Schema → EntityFacet → ℕ → Reading Bool
entity_weighed s f e = do
  seen ← seen_for s f.predefined e
  told (entity_holds s f seen)
