-- A schema: the entities that its declarations declare (ISO 10303-11, entity declaration).
use Rattle.std.specs.Prelude.{ℕ, zero, suc, Bool, ◌||◌, List, [], ◌∷◌, length, reverse, map, flat_map, position, find, Option, Some, None, bytes_eq}
use Rattle.std.specs.List.{list_any}
use Rattle.std.specs.Option.{option_and_then}
use Rattle.ifc_base.specs.declared.decl.EntityDecl.{EntityDecl}
use Rattle.schema_table.specs.declared.slot.AttrSlot.{AttrSlot}

-- A schema is the list of its entities, in declared order. All that follows is said of any list, so of one too in which a name
-- stands twice, a supertype isn't declared or supertypes go in a circle; a table is built of none of these.
abbrev pub Schema : Type 0
Schema = List EntityDecl

-- the declaration of the entity of this name, if it is declared
abbrev pub declaration : Schema → List ℕ → Option EntityDecl
declaration s name = find (λ d. bytes_eq d.name name) s

-- the declaration of the direct supertype, if there is one
abbrev pub supertype : Schema → EntityDecl → Option EntityDecl
supertype s d = option_and_then (declaration s) d.parent

-- this entity and its supertypes, each above the one before it, at most so many
abbrev pub upwards : Schema → ℕ → Option EntityDecl → List EntityDecl
upwards s zero d = []
upwards s (suc n) None = []
upwards s (suc n) (Some d) = d ∷ upwards s n (supertype s d)

-- The entity of this name and its supertypes, the topmost last; none where it isn't declared. Where supertypes don't go in a circle
-- there are at most as many as the schema has entities.
abbrev pub ancestry : Schema → List ℕ → List EntityDecl
ancestry s name = upwards s (length s) (declaration s name)

-- An entity is a kind of itself and of each of its supertypes.
unfoldable pub is_kind_of : Schema → List ℕ → List ℕ → Bool
is_kind_of s name kind = bytes_eq name kind || list_any (λ d. bytes_eq d.name kind) (ancestry s name)

-- one of these entities redeclares the attribute of this name as derived
abbrev pub redeclares : List EntityDecl → List ℕ → Bool
redeclares ds attr = list_any (λ d. list_any (bytes_eq attr) d.derived) ds

-- The attributes of an entity in the order of an instance's parameters: those of its topmost supertype first and its own last
-- (ISO 10303-21, mapping of simple entity instances). Each is derived where the entity or a supertype redeclares its name so. An
-- entity that isn't declared has none.
unfoldable pub attributes : Schema → List ℕ → List AttrSlot
attributes s name = map (λ attr. record { name = attr; derived = redeclares (ancestry s name) attr }) (flat_map (λ d. d.own) (reverse (ancestry s name)))

-- the first place, from 0, of an attribute of this name
unfoldable pub place_of : Schema → List ℕ → List ℕ → Option ℕ
place_of s name attr = position (λ a. bytes_eq a.name attr) (attributes s name)
