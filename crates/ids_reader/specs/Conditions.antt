-- Objects within objects: conditions, restrictions, the entity of a partOf facet, an applicability. Each is looked at for members that
-- its table hasn't, for members that are missing or of another kind, and for too many texts of a restriction.
use Rattle.std.specs.Prelude.{ℕ, ◌+◌, ◌&&◌, Bool, true, false, not, List, length, Option, Some, None, codes, nat_lt}
use Rattle.std.specs.List.{list_all}
use Rattle.std.specs.Option.{option_map_or}
use Rattle.serde_json.specs.Data.{Data}
use Rattle.serde_json.specs.Find.{get}
use Rattle.ids_reader.specs.declared.tables.Kind.{Kind}
use Rattle.ids_reader.specs.declared.tables.Kind.TheVariants as kind
use Rattle.ids_reader.specs.declared.tables.Object.{Object}
use Rattle.ids_reader.specs.declared.tables.Object.TheVariants as object
use Rattle.ids_reader.specs.Tables.{Row, table}
use Rattle.ids_reader.specs.Members.{has_only, is_of, is_text, plain_fits, items_at}

-- What stands at the member passes, if anything does.
abbrev pub at_member : (Data → Bool) → List ℕ → Data → Bool
at_member passes name d = option_map_or passes (get name d) true

-- What stands at the member of a row passes for its kind, if anything does.
abbrev pub within : (Kind → Data → Bool) → Data → Row → Bool
within passes d r = at_member (passes r.kind) r.name d

-- ---- no member besides those of the tables

-- A condition and its restriction.
unfoldable pub condition_has_known : Data → Bool
condition_has_known d = has_only object.Condition d && at_member (has_only object.Restriction) (codes "restriction") d

-- The entity of a partOf facet, and its two conditions.
unfoldable pub entity_has_known : Data → Bool
entity_has_known d = has_only object.Entity d && (at_member condition_has_known (codes "name") d && at_member condition_has_known (codes "predefinedType") d)

unfoldable pub kind_has_known : Kind → Data → Bool
kind_has_known kind.Any d = true
kind_has_known kind.Text d = true
kind_has_known kind.Texts d = true
kind_has_known kind.List d = true
kind_has_known kind.Relation d = true
kind_has_known kind.Restriction d = true
kind_has_known kind.Condition d = condition_has_known d
kind_has_known kind.Entity d = entity_has_known d
kind_has_known kind.Applicability d = has_only object.Applicability d

-- Neither the value nor what stands within its members has a member that the tables have not.
unfoldable pub has_known : Object → Data → Bool
has_known object d = has_only object d && list_all (within kind_has_known d) (table object)

-- ---- each member there and of its kind

-- A condition has one of its two forms, and not both.
abbrev pub one_form : Option Data → Option Data → Bool
one_form (Some simple) None = is_text simple
one_form None (Some parts) = is_of plain_fits object.Restriction parts
one_form None None = false
one_form (Some simple) (Some parts) = false

unfoldable pub condition_fits : Data → Bool
condition_fits d = one_form (get (codes "simpleValue") d) (get (codes "restriction") d)

-- The entity of a partOf facet has a name, and may have a predefined type.
unfoldable pub entity_fits : Data → Bool
entity_fits d = option_map_or condition_fits (get (codes "name") d) false && at_member condition_fits (codes "predefinedType") d

-- A value is of a kind.
unfoldable pub fits : Kind → Data → Bool
fits kind.Any d = plain_fits kind.Any d
fits kind.Text d = plain_fits kind.Text d
fits kind.Texts d = plain_fits kind.Texts d
fits kind.List d = plain_fits kind.List d
fits kind.Relation d = plain_fits kind.Relation d
fits kind.Restriction d = plain_fits kind.Restriction d
fits kind.Condition d = condition_fits d
fits kind.Entity d = entity_fits d
fits kind.Applicability d = is_of plain_fits object.Applicability d

-- ---- not too many texts of a restriction

abbrev pub most_texts : ℕ
most_texts = 1000

-- A restriction has at most 1,000 enumerations and patterns together.
unfoldable pub restriction_is_small : Data → Bool
restriction_is_small d = not (nat_lt most_texts (length (items_at (codes "enumeration") d) + length (items_at (codes "pattern") d)))

abbrev pub condition_is_small : Data → Bool
condition_is_small d = at_member restriction_is_small (codes "restriction") d

unfoldable pub entity_is_small : Data → Bool
entity_is_small d = at_member condition_is_small (codes "name") d && at_member condition_is_small (codes "predefinedType") d

unfoldable pub kind_is_small : Kind → Data → Bool
kind_is_small kind.Any d = true
kind_is_small kind.Text d = true
kind_is_small kind.Texts d = true
kind_is_small kind.List d = true
kind_is_small kind.Relation d = true
kind_is_small kind.Restriction d = true
kind_is_small kind.Condition d = condition_is_small d
kind_is_small kind.Entity d = entity_is_small d
kind_is_small kind.Applicability d = true

-- No restriction within the members of the object has too many texts.
unfoldable pub is_small : Object → Data → Bool
is_small object d = list_all (within kind_is_small d) (table object)
