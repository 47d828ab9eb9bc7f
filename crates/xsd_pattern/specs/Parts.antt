-- Parts with their repeats, groups and sides, with the first fault.
use Rattle.std.specs.Prelude.{ℕ, zero, suc, Bool, true, false, List, [], ◌∷◌, ◌++◌, Option, Some, None, Ok, ◌==◌, if◌then◌else◌}
use Rattle.reading.specs.Reading.{Text, Read, ◌>>=◌, refuse, all_turns}
use Rattle.pattern_tree.specs.declared.tree.Set.{Set}
use Rattle.pattern_tree.specs.declared.tree.Times.{Times}
use Rattle.pattern_tree.specs.declared.tree.Tree.{Tree}
use Rattle.pattern_tree.specs.declared.tree.Tree.TheVariants as tree_of
use Rattle.xsd_pattern.specs.declared.fault.PatternCause.{PatternCause}
use Rattle.xsd_pattern.specs.declared.fault.PatternCause.TheVariants.{Syntax, TooDeep}
use Rattle.xsd_pattern.specs.declared.sides.Sides.{Sides}
use Rattle.xsd_pattern.specs.Characters.{is_reserved}
use Rattle.xsd_pattern.specs.Sets.{literal, any_character, escape, class_}
use Rattle.xsd_pattern.specs.Repeats.{repeat_here}

-- ---- sides: whole ones, and the parts of the one that is read

abbrev pub no_sides : Sides
no_sides = record { whole = []; parts = [] }

abbrev pub with_part : Sides → Tree → Sides
with_part s x = record { whole = s.whole; parts = s.parts ++ x ∷ [] }

abbrev pub all_sides : Sides → List Tree
all_sides s = s.whole ++ tree_of.Sequence s.parts ∷ []

abbrev pub with_bar : Sides → Sides
with_bar s = record { whole = all_sides s; parts = [] }

-- one of the sides, each of which is a sequence
abbrev pub choice : Sides → Tree
choice s = tree_of.Choice (all_sides s)

-- ---- parts

abbrev pub set_tree : Set × Text → Read PatternCause Tree
set_tree s = Ok (tree_of.Set s.0, s.1)

abbrev pub with_times : Tree → Option Times → Tree
with_times x None = x
with_times x (Some n) = tree_of.Repeat x n

abbrev pub repeated_by : Tree → Option Times × Text → Read PatternCause Tree
repeated_by x n = Ok (with_times x n.0, n.1)

-- x with the repeat that stands behind it, if one does
unfoldable pub repeated : Tree × Text → Read PatternCause Tree
repeated x = repeat_here x.1 >>= repeated_by x.0

-- what reads the sides up to the end of a group
abbrev pub Reader : Type 0
Reader = Text → Read PatternCause Sides

-- behind the sides of a group, which ends by a parenthesis
unfoldable pub group_end : Sides × Text → Read PatternCause Tree
group_end (s, []) = refuse Syntax []
group_end (s, c ∷ t) = if c == 41 then Ok (choice s, t) else refuse Syntax (c ∷ t)

-- behind the parenthesis at `at`, which may open where there is something that reads within it
abbrev pub group : Option Reader → Text → Text → Read PatternCause Tree
group None at t = refuse TooDeep at
group (Some inner) at t = inner t >>= group_end

-- a part without its repeat
unfoldable pub atom : Option Reader → Text → Read PatternCause Tree
atom inner [] = refuse Syntax []
atom inner (c ∷ t) =
    if c == 40 then group inner (c ∷ t) t
    else if c == 91 then (class_ t >>= set_tree)
    else if c == 92 then (escape t >>= set_tree)
    else if c == 46 then Ok (tree_of.Set any_character, t)
    else if is_reserved c then refuse Syntax (c ∷ t)
    else Ok (tree_of.Set (literal c), t)

abbrev pub add_part : Sides → Tree × Text → Read PatternCause (Bool × Sides)
add_part s x = Ok ((true, with_part s x.0), x.1)

-- One part or bar, or the end of the sides.
unfoldable pub sides_turn : Option Reader → Sides → Text → Read PatternCause (Bool × Sides)
sides_turn inner s [] = Ok ((false, s), [])
sides_turn inner s (c ∷ t) =
    if c == 41 then Ok ((false, s), c ∷ t)
    else if c == 124 then Ok ((true, with_bar s), t)
    else (atom inner (c ∷ t) >>= repeated >>= add_part s)

abbrev pub sides_with : Option Reader → Reader
sides_with inner t = all_turns Syntax (sides_turn inner) no_sides t

-- sides in which groups nest no deeper than the number
unfoldable pub sides : ℕ → Reader
sides zero = sides_with None
sides (suc depth) = sides_with (Some (sides depth))

-- what reads the sides of a group, where groups may nest so deep
unfoldable pub below : ℕ → Option Reader
below zero = None
below (suc depth) = Some (sides depth)
