-- What conditions and restrictions say, once their form is known. Of another value these words say something too: a text that isn't there
-- is empty, a condition that isn't there is refused for its form.
use Rattle.std.specs.Prelude.{ℕ, List, [], map, Option, Some, None, Ok, Err, codes, option_map, unwrap_or}
use Rattle.std.specs.Str.{chars}
use Rattle.serde_json.specs.Data.{Data}
use Rattle.serde_json.specs.Find.{get, as_str}
use Rattle.restrictions.specs.declared.condition.Condition.{Condition}
use Rattle.restrictions.specs.declared.condition.Condition.TheVariants.{Simple}
use Rattle.restrictions.specs.declared.parts.RestrictionFault.{RestrictionFault}
use Rattle.restrictions.specs.declared.parts.RestrictionParts.{RestrictionParts}
use Rattle.restrictions.specs.Building.{condition_of, parts_fault}
use Rattle.ids_reader.specs.declared.fault.IdsCause.TheVariants as cause
use Rattle.ids_reader.specs.Members.{text_at, items_at}
use Rattle.ids_reader.specs.Reads.{Read}

-- The text of a member, if it has one.
abbrev pub name_at : List ℕ → Data → Option (List ℕ)
name_at name d = option_map chars (text_at name d)

-- The text of a member, empty where it has none.
abbrev pub name_or_none : List ℕ → Data → List ℕ
name_or_none name d = chars (unwrap_or (text_at name d) [])

-- The text of a value, empty where it is none.
abbrev pub name_of : Data → List ℕ
name_of d = chars (unwrap_or (as_str d) [])

-- The texts of a list.
unfoldable pub names_of : List Data → List (List ℕ)
names_of ds = map name_of ds

-- The texts of a member that is a list.
abbrev pub names_at : List ℕ → Data → List (List ℕ)
names_at name d = names_of (items_at name d)

-- The parts of a restriction (IDS 1.0, xs:restriction).
unfoldable pub parts_of : Data → RestrictionParts
parts_of d = record {
  base = name_or_none (codes "base") d;
  enumeration = names_at (codes "enumeration") d;
  pattern = names_at (codes "pattern") d;
  min_inclusive = name_at (codes "minInclusive") d;
  max_inclusive = name_at (codes "maxInclusive") d;
  min_exclusive = name_at (codes "minExclusive") d;
  max_exclusive = name_at (codes "maxExclusive") d;
  length = name_at (codes "length") d;
  min_length = name_at (codes "minLength") d;
  max_length = name_at (codes "maxLength") d;
}

abbrev pub built_unless : Option RestrictionFault → RestrictionParts → Read Condition
built_unless None parts = Ok (condition_of parts)
built_unless (Some fault) parts = Err cause.Restriction

-- The restriction of these parts, which may be none.
unfoldable pub built : Data → Read Condition
built d = built_unless (parts_fault (parts_of d)) (parts_of d)

abbrev pub condition_from : Option Data → Data → Read Condition
condition_from (Some parts) d = built parts
condition_from None d = Ok (Simple (name_or_none (codes "simpleValue") d))

-- What a condition asks: its restriction, or its simple value.
unfoldable pub restriction_of : Data → Read Condition
restriction_of d = condition_from (get (codes "restriction") d) d

abbrev pub optional : {A : Type 0} → Option (Read A) → Read (Option A)
optional None = Ok None
optional (Some (Ok x)) = Ok (Some x)
optional (Some (Err why)) = Err why

-- What the condition at a member asks, if one stands there.
unfoldable pub restriction_at : List ℕ → Data → Read (Option Condition)
restriction_at name d = optional (option_map restriction_of (get name d))

abbrev pub wanted : {A : Type 0} → Option (Read A) → Read A
wanted None = Err cause.Shape
wanted (Some read) = read

-- What the condition at a member asks that must stand there.
unfoldable pub restriction_wanted : List ℕ → Data → Read Condition
restriction_wanted name d = wanted (option_map restriction_of (get name d))
