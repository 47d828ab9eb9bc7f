-- The facets of one side of a specification, each at its place.
use Rattle.std.specs.Prelude.{ℕ, ◌+◌, ◌&&◌, ◌||◌, Bool, true, false, List, [], ◌∷◌, map, Ok}
use Rattle.serde_json.specs.Data.{Data}
use Rattle.schema_table.specs.Schema.{Schema}
use Rattle.audit_model.specs.declared.facet.Facet.{Facet}
use Rattle.audit_model.specs.declared.specification.Requirement.{Requirement}
use Rattle.audit_model.specs.Specifications.{is_entity}
use Rattle.ids_reader.specs.declared.fault.IdsCause.TheVariants as cause
use Rattle.ids_reader.specs.declared.standing.Setting.{Setting}
use Rattle.ids_reader.specs.declared.standing.Side.{Side}
use Rattle.ids_reader.specs.declared.standing.Side.TheVariants as side
use Rattle.ids_reader.specs.declared.tables.FacetKind.{FacetKind}
use Rattle.ids_reader.specs.Facets.{value_of, names_unknown}
use Rattle.ids_reader.specs.Reads.{Read, ◌>>=◌, refuse_if, Placed, placed, ◌>>>◌}
use Rattle.ids_reader.specs.Standing.{head_of}

-- What a facet says, where the entity that it names is declared. Only in a specification for the model is it looked up.
unfoldable pub declared_of : Schema → Bool → FacetKind → Data → Read Facet
declared_of s for_model kind d = value_of kind d >>= λ f. refuse_if (for_model && names_unknown s kind d) cause.UnknownEntity (Ok f)

-- What a facet says in its specification, and its cardinality; or the first cause for which it is refused. `closed` is whether no entity
-- facet may stand there.
unfoldable pub facet_of : Schema → Setting → Bool → Data → Read Requirement
facet_of s t closed d = do
  head ← head_of t.side closed d
  said ← declared_of s t.for_model head.0 d
  Ok (record { facet = said; cardinality = head.1 })

unfoldable pub facet_at : Schema → Setting → ℕ → Bool → Data → Placed Requirement
facet_at s t place closed d = placed t.spec place (facet_of s t closed d)

abbrev pub is_applicability : Side → Bool
is_applicability side.Applicability = true
is_applicability side.Requirements = false

-- An entity facet of an applicability closes it for another one.
unfoldable pub closed_after : Side → Bool → Facet → Bool
closed_after side closed f = closed || (is_applicability side && is_entity f)

-- The facets of a list, the first of which stands at a place; or the fault of the first that has one.
unfoldable pub facets_from : Schema → Setting → ℕ → Bool → List Data → Placed (List Requirement)
facets_from s t place closed [] = Ok []
facets_from s t place closed (d ∷ ds) =
    facet_at s t place closed d
    >>> λ r. (facets_from s t (place + 1) (closed_after t.side closed r.facet) ds
    >>> λ rs. Ok (r ∷ rs))

-- The facets without their cardinalities.
unfoldable pub alone : List Requirement → List Facet
alone rs = map (λ r. r.facet) rs
