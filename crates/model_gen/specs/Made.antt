-- The inputs that are made from a number and a count, as lists of characters. All of them are ASCII, so each is one byte.
use Rattle.std.specs.Prelude.{ℕ, zero, suc, ◌+◌, ◌*◌, ◌%◌, ◌==◌, List, [], ◌++◌, codes, if◌then◌else◌}
use Rattle.std.specs.Fmt.{decimal}
use Rattle.model_gen.specs.declared.inputs.Inputs.{Inputs}
use Rattle.model_gen.specs.Fixed.{declarations, specifications, script, head, foot}

-- The fire rating of wall k: `REI30` where k and the rest of the number by 500 make a multiple of 500 together, and else `REI60`.
abbrev pub rating : ℕ → ℕ → List ℕ
rating number k = if (k + number % 500) % 500 == 0 then codes "REI30" else codes "REI60"

-- Wall k has four instances (ISO 10303-21), a line each, of the ids b to b + 3 where b = 10 * k: the wall, the property of its fire
-- rating, the set with this property, and the relationship that gives the set to the wall.

abbrev pub wall_line : ℕ → List ℕ
wall_line k =
    codes "#" ++ decimal (10 * k) ++ codes "=IFCWALL('" ++ decimal k ++ codes "',$,'W" ++ decimal k ++ codes "',$,$,$,$,$,$);\n"

abbrev pub property_line : ℕ → ℕ → List ℕ
property_line number k =
    codes "#" ++ decimal (10 * k + 1) ++ codes "=IFCPROPERTYSINGLEVALUE('FireRating',$,IFCLABEL('" ++ rating number k ++ codes "'),$);\n"

abbrev pub set_line : ℕ → List ℕ
set_line k =
    codes "#" ++ decimal (10 * k + 2) ++ codes "=IFCPROPERTYSET('" ++ decimal k ++ codes "',$,'Pset_WallCommon',$,(#" ++ decimal (10 * k + 1)
    ++ codes "));\n"

abbrev pub relationship_line : ℕ → List ℕ
relationship_line k =
    codes "#" ++ decimal (10 * k + 3) ++ codes "=IFCRELDEFINESBYPROPERTIES('" ++ decimal k ++ codes "',$,$,$,(#" ++ decimal (10 * k) ++ codes "),#"
    ++ decimal (10 * k + 2) ++ codes ");\n"

unfoldable pub wall_lines : ℕ → ℕ → List ℕ
wall_lines number k = wall_line k ++ property_line number k ++ set_line k ++ relationship_line k

-- the lines of the walls from 1 to this one
unfoldable pub walls : ℕ → ℕ → List ℕ
walls number zero = []
walls number (suc k) = walls number k ++ wall_lines number (suc k)

-- the exchange file of so many walls
abbrev pub model : ℕ → ℕ → List ℕ
model number count = head ++ walls number count ++ foot

-- The made inputs. The number and the count come into the model alone.
unfoldable pub made_inputs : ℕ → ℕ → Inputs
made_inputs number count =
    record { declarations = declarations; specs = specifications; model = model number count; script = script }
