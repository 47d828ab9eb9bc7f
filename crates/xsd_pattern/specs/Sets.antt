-- One character of a set: literals, escapes, `.`, \d and its kin, and classes between brackets, with the first fault.
use Rattle.std.specs.Prelude.{ℕ, Bool, true, false, List, [], ◌∷◌, ◌++◌, Option, Some, None, Ok, ◌==◌, nat_le, ◌&&◌, if◌then◌else◌}
use Rattle.reading.specs.Reading.{Text, Read, ◌>>=◌, refuse, all_turns}
use Rattle.pattern_tree.specs.declared.tree.Class.{Class}
use Rattle.pattern_tree.specs.declared.tree.Part.{Part}
use Rattle.pattern_tree.specs.declared.tree.Part.TheVariants as part_of
use Rattle.pattern_tree.specs.declared.tree.Set.{Set}
use Rattle.xsd_pattern.specs.declared.fault.PatternCause.{PatternCause}
use Rattle.xsd_pattern.specs.declared.fault.PatternCause.TheVariants.{Syntax}
use Rattle.xsd_pattern.specs.Characters.{escaped, greatest_escaped, class_of, is_plain}

-- from one character to another
abbrev pub range : ℕ → ℕ → Part
range a b = part_of.Range a b

-- one character
abbrev pub one : ℕ → Part
one c = range c c

abbrev pub set : Bool → List Part → Set
set negated parts = record { negated = negated; parts = parts }

-- the set of one character
abbrev pub literal : ℕ → Set
literal c = set false (one c ∷ [])

-- any character but line feed and carriage return
abbrev pub any_character : Set
any_character = set true (one 10 ∷ one 13 ∷ [])

-- ---- escapes outside brackets

abbrev pub escape_else : Option ℕ → ℕ → Text → Read PatternCause Set
escape_else (Some c) e t = Ok (literal c, t)
escape_else None e t = refuse Syntax (e ∷ t)

abbrev pub escape_by : Option Class → ℕ → Text → Read PatternCause Set
escape_by (Some k) e t = Ok (set false (part_of.Class k ∷ []), t)
escape_by None e t = escape_else (escaped e) e t

-- behind a backslash
unfoldable pub escape : Text → Read PatternCause Set
escape [] = refuse Syntax []
escape (e ∷ t) = escape_by (class_of e) e t

-- ---- classes between brackets

-- the character of an escape that ends the range from a on, where e stands behind the backslash
abbrev pub end_escaped : ℕ → Option ℕ → ℕ → Text → Read PatternCause ℕ
end_escaped a (Some b) e t = if nat_le a b then Ok (b, t) else refuse Syntax (e ∷ t)
end_escaped a None e t = refuse Syntax (e ∷ t)

-- behind the backslash of the end of a range
unfoldable pub end_escape : ℕ → Text → Read PatternCause ℕ
end_escape a [] = refuse Syntax []
end_escape a (e ∷ t) = end_escaped a (escaped e) e t

-- the end of the range from a on. Where a is past the characters of all escapes, no backslash goes on.
unfoldable pub range_end : ℕ → Text → Read PatternCause ℕ
range_end a [] = refuse Syntax []
range_end a (c ∷ t) =
    if c == 92 then (if nat_le a greatest_escaped then end_escape a t else refuse Syntax (c ∷ t))
    else if is_plain c && nat_le a c then Ok (c, t)
    else refuse Syntax (c ∷ t)

abbrev pub Parts : Type 0
Parts = List Part

-- a dash that stands for itself as the last part, behind which the class ends
unfoldable pub last_dash : Parts → Text → Read PatternCause (Bool × Parts)
last_dash ps [] = refuse Syntax []
last_dash ps (c ∷ t) = if c == 93 then Ok ((false, ps), t) else refuse Syntax (c ∷ t)

abbrev pub ranged : Parts → ℕ → ℕ × Text → Read PatternCause (Bool × Parts)
ranged ps a b = Ok ((true, ps ++ range a b.0 ∷ []), b.1)

-- behind a dash behind the character a: the dash is the last part, or a range goes from a on
unfoldable pub behind_dash : Parts → ℕ → Text → Read PatternCause (Bool × Parts)
behind_dash ps a [] = refuse Syntax []
behind_dash ps a (c ∷ t) =
    if c == 93 then Ok ((false, (ps ++ one a ∷ []) ++ one 45 ∷ []), t)
    else (range_end a (c ∷ t) >>= ranged ps a)

-- behind the character a
unfoldable pub behind_member : Parts → ℕ → Text → Read PatternCause (Bool × Parts)
behind_member ps a [] = Ok ((true, ps ++ one a ∷ []), [])
behind_member ps a (c ∷ t) = if c == 45 then behind_dash ps a t else Ok ((true, ps ++ one a ∷ []), c ∷ t)

abbrev pub member_else : Parts → Option ℕ → ℕ → Text → Read PatternCause (Bool × Parts)
member_else ps (Some a) e t = behind_member ps a t
member_else ps None e t = refuse Syntax (e ∷ t)

abbrev pub member_by : Parts → Option Class → ℕ → Text → Read PatternCause (Bool × Parts)
member_by ps (Some k) e t = Ok ((true, ps ++ part_of.Class k ∷ []), t)
member_by ps None e t = member_else ps (escaped e) e t

-- behind a backslash
unfoldable pub member_escape : Parts → Text → Read PatternCause (Bool × Parts)
member_escape ps [] = refuse Syntax []
member_escape ps (e ∷ t) = member_by ps (class_of e) e t

abbrev pub is_empty : Parts → Bool
is_empty [] = true
is_empty (p ∷ ps) = false

-- behind a dash that doesn't stand in a range: it stands for itself, as the first part or the last
unfoldable pub dash : Parts → Text → Read PatternCause (Bool × Parts)
dash ps t = if is_empty ps then Ok ((true, ps ++ one 45 ∷ []), t) else last_dash (ps ++ one 45 ∷ []) t

-- One part of a class, of which ps are read, or its end.
unfoldable pub class_turn : Parts → Text → Read PatternCause (Bool × Parts)
class_turn ps [] = refuse Syntax []
class_turn ps (c ∷ t) =
    if c == 93 then (if is_empty ps then refuse Syntax (c ∷ t) else Ok ((false, ps), t))
    else if c == 45 then dash ps t
    else if c == 92 then member_escape ps t
    else if c == 91 then refuse Syntax (c ∷ t)
    else behind_member ps c t

abbrev pub set_end : Bool → Parts × Text → Read PatternCause Set
set_end negated ps = Ok (set negated ps.0, ps.1)

-- behind the bracket, or the bracket and ^
unfoldable pub class_body : Bool → Text → Read PatternCause Set
class_body negated t = all_turns Syntax class_turn [] t >>= set_end negated

-- behind the bracket
unfoldable pub class_ : Text → Read PatternCause Set
class_ [] = refuse Syntax []
class_ (c ∷ t) = if c == 94 then class_body true t else class_body false (c ∷ t)
