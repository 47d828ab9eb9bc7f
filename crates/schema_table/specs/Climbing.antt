-- Ways up from an entity to its supertypes, by numbers. The number of an entity is its place in the schema, from 0.
use Rattle.std.specs.List.{range_with_len, list_any}
use Rattle.std.specs.Prelude.{◌≡◌, ◌<◌, slice_index_or, length, ℕ, Bool, false, ◌==◌, zero, suc, List, [], ◌∷◌, map, position, slice_get, Option, Some, None, bytes_eq}
use Rattle.std.specs.Option.{option_and_then, unwrap_or}
use Rattle.ifc_base.specs.declared.decl.EntityDecl.{EntityDecl}
use Rattle.schema_table.specs.Schema.{Schema}

-- the number of the first entity of this name
abbrev pub place : Schema → List ℕ → Option ℕ
place s name = position (λ d. bytes_eq d.name name) s

-- whether it is this number
abbrev pub is_number : Option ℕ → ℕ → Bool
is_number None x = false
is_number (Some k) x = x == k

-- of each entity, the number of its supertype, if it has one that is declared
unfoldable pub parents_of : Schema → List (Option ℕ)
parents_of s = map (λ d. option_and_then (place s) d.parent) s

-- the entity of this number, where a number is given
abbrev pub entity_at : Schema → Option ℕ → Option EntityDecl
entity_at s o = option_and_then (slice_get s) o

-- one step up in a list of parents
abbrev pub step : List (Option ℕ) → ℕ → Option ℕ
step ps i = unwrap_or (slice_get ps i) None

-- so many steps up; none where the way ends before
unfoldable pub lift : List (Option ℕ) → ℕ → Option ℕ → Option ℕ
lift ps zero o = o
lift ps (suc k) o = lift ps k (option_and_then (step ps) o)

-- the numbers that are passed in so many steps, the first one among them
unfoldable pub chain : List (Option ℕ) → ℕ → Option ℕ → List ℕ
chain ps zero o = []
chain ps (suc k) None = []
chain ps (suc k) (Some i) = i ∷ chain ps k (step ps i)

-- where so many steps lead from each number
abbrev pub lifts : List (Option ℕ) → ℕ → List (Option ℕ)
lifts ps k = map (λ i. lift ps k (Some i)) (range_with_len 0 (length ps))

-- the marks of the numbers that these lead to
abbrev pub AreMarks : List (Option ℕ) → List Bool → Type 0
AreMarks far marks = (length marks ≡ length far) × ((y : ℕ) → y < length far → slice_index_or marks y false ≡ list_any (λ o. is_number o y) far)
