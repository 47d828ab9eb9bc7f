-- The members of an object, beside the table of those that it has.
use Rattle.std.specs.Prelude.{ℕ, ◌&&◌, Bool, true, false, not, List, [], ◌∷◌, Option, Some, None, codes, option_map, option_and_then, unwrap_or, is_some, if◌then◌else◌}
use Rattle.std.specs.List.{list_all, list_any}
use Rattle.std.specs.Option.{option_map_or}
use Rattle.std.specs.Str.{bytes_eq}
use Rattle.serde_json.specs.Data.{Data, Items, no_items, item, Members, no_members, member}
use Rattle.serde_json.specs.Find.{get, as_object, as_array, as_str}
use Rattle.audit_model.specs.declared.facet.Relation.{Relation}
use Rattle.audit_model.specs.declared.facet.Relation.TheVariants.{Aggregates, Nests, Contained, Group, VoidsFills}
use Rattle.ids_reader.specs.declared.tables.Object.{Object}
use Rattle.ids_reader.specs.declared.tables.Kind.{Kind}
use Rattle.ids_reader.specs.declared.tables.Kind.TheVariants as kind
use Rattle.ids_reader.specs.Tables.{Row, table}

-- The names of an object's members.
abbrev pub names_in : Members → List (List ℕ)
names_in no_members = []
names_in (member k d ms) = k ∷ names_in ms

-- The table has a member of this name.
abbrev pub is_in : List Row → List ℕ → Bool
is_in rows name = list_any (λ r. bytes_eq r.name name) rows

-- A value, if it is an object, has no member besides those of its table.
unfoldable pub has_only : Object → Data → Bool
has_only object d = option_map_or (λ ms. list_all (is_in (table object)) (names_in ms)) (as_object d) true

-- Items as a list.
abbrev pub listed : Items → List Data
listed no_items = []
listed (item d ds) = d ∷ listed ds

-- The items of a list.
abbrev pub items_of : Data → Option (List Data)
items_of d = option_map listed (as_array d)

-- The items of a member that is a list, none where it is no list.
abbrev pub items_at : List ℕ → Data → List Data
items_at name d = unwrap_or (option_and_then items_of (get name d)) []

-- The text of a member that is one.
abbrev pub text_at : List ℕ → Data → Option (List ℕ)
text_at name d = option_and_then as_str (get name d)

abbrev pub is_text : Data → Bool
is_text d = is_some (as_str d)

-- A value is a list of strings.
unfoldable pub are_texts : Data → Bool
are_texts d = option_map_or (list_all is_text) (items_of d) false

-- The relation that a word names (IDS 1.0, partOf facet).
unfoldable pub relation_named : List ℕ → Option Relation
relation_named t =
    if bytes_eq t (codes "IFCRELAGGREGATES") then Some Aggregates
    else (if bytes_eq t (codes "IFCRELNESTS") then Some Nests
    else (if bytes_eq t (codes "IFCRELCONTAINEDINSPATIALSTRUCTURE") then Some Contained
    else (if bytes_eq t (codes "IFCRELASSIGNSTOGROUP") then Some Group
    else (if bytes_eq t (codes "IFCRELVOIDSELEMENT IFCRELFILLSELEMENT") then Some VoidsFills else None))))

abbrev pub is_relation : Data → Bool
is_relation d = option_map_or (λ t. is_some (relation_named t)) (as_str d) false

-- A value is of a kind that asks for no object.
unfoldable pub plain_fits : Kind → Data → Bool
plain_fits kind.Any d = true
plain_fits kind.Text d = is_text d
plain_fits kind.Texts d = are_texts d
plain_fits kind.List d = is_some (as_array d)
plain_fits kind.Relation d = is_relation d
plain_fits kind.Restriction d = false
plain_fits kind.Condition d = false
plain_fits kind.Entity d = false
plain_fits kind.Applicability d = false

-- The member is there and of its kind; or it is missing, and may be.
abbrev pub stands : (Kind → Data → Bool) → Data → Row → Bool
stands fits d r = option_map_or (fits r.kind) (get r.name d) (not r.required)

-- A value is an object that has the members of its table, each of its kind.
unfoldable pub is_of : (Kind → Data → Bool) → Object → Data → Bool
is_of fits object d = is_some (as_object d) && list_all (stands fits d) (table object)
