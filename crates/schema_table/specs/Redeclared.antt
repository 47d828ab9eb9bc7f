-- Where inherited attributes are redeclared as derived.
use Rattle.std.specs.Prelude.{◌≡◌, ℕ, ◌<◌, Bool, false, nat_lt, List, length, find, slice_get, Option, Some, bytes_eq}
use Rattle.std.specs.List.{list_any}
use Rattle.std.specs.Option.{option_map_or}
use Rattle.schema_table.specs.Schema.{Schema}
use Rattle.schema_table.specs.Climbing.{parents_of, step, chain}

-- the entity of this number redeclares an attribute
abbrev pub redeclares_any : Schema → ℕ → Bool
redeclares_any s x = option_map_or (λ d. nat_lt 0 (length d.derived)) (slice_get s x) false

-- the entity of this number redeclares the attribute of this name
abbrev pub redeclares_this : Schema → List ℕ → ℕ → Bool
redeclares_this s attr x = option_map_or (λ d. list_any (bytes_eq attr) d.derived) (slice_get s x) false

-- the first that redeclares an attribute, of the entity of this number and its supertypes
abbrev pub nearest : Schema → ℕ → Option ℕ
nearest s x = find (redeclares_any s) (chain (parents_of s) (length s) (Some x))

-- From each entity they lead to the nearest one that redeclares an attribute.
abbrev pub AreLinks : Schema → List (Option ℕ) → Type 0
AreLinks s links = (x : ℕ) → x < length s → step links x ≡ nearest s x
