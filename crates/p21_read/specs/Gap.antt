-- Blanks and comments between tokens (ISO 10303-21, token separators).
use Rattle.std.specs.Prelude.{ℕ, Bool, true, false, ◌&&◌, ◌||◌, [], ◌∷◌, Ok, ◌==◌, if◌then◌else◌}
use Rattle.reading.specs.Reading.{Text, Read, ◌>>=◌, refuse, all_turns}
use Rattle.p21_read.specs.declared.fault.P21Cause.{P21Cause}
use Rattle.p21_read.specs.declared.fault.P21Cause.TheVariants.{Unclosed, BadToken}

-- space, tab, line feed, carriage return
unfoldable pub is_blank : ℕ → Bool
is_blank c = c == 32 || c == 9 || c == 10 || c == 13

-- What follows the comment that began at `start`: it ends at the first slash behind a star. The flag says that a star came before.
unfoldable pub comment : Bool → Text → Text → Read P21Cause (Unit {0})
comment star start [] = refuse Unclosed start
comment star start (c ∷ t) = if star && c == 47 then Ok (tt, t) else comment (c == 42) start t

-- behind the slash of a comment a star stands
abbrev pub after_slash : Text → Text → Read P21Cause (Unit {0})
after_slash start [] = refuse BadToken start
after_slash start (c ∷ t) = if c == 42 then comment false start t else refuse BadToken start

-- the comment whose slash comes next
unfoldable pub slash : Text → Read P21Cause (Unit {0})
slash [] = refuse BadToken []
slash (c ∷ t) = after_slash (c ∷ t) t

-- one blank or comment, if one comes next
unfoldable pub gap_turn : Unit {0} → Text → Read P21Cause (Bool × Unit {0})
gap_turn s [] = Ok ((false, tt), [])
gap_turn s (c ∷ t) =
    if c == 47 then (slash (c ∷ t) >>= λ x. Ok ((true, tt), x.1))
    else if is_blank c then Ok ((true, tt), t)
    else Ok ((false, tt), c ∷ t)

-- all blanks and comments that come next
unfoldable pub gap : Text → Read P21Cause (Unit {0})
gap t = all_turns BadToken gap_turn tt t
