-- Repeats: * + ? {n} {n,} {n,m}, with the first fault.
use Rattle.std.specs.Prelude.{ℕ, ◌+◌, ◌*◌, ◌-◌, List, [], ◌∷◌, Option, Some, None, Ok, ◌==◌, nat_le, if◌then◌else◌}
use Rattle.reading.specs.Reading.{Text, Read, ◌>>=◌, refuse}
use Rattle.reading.specs.Runs.{run}
use Rattle.pattern_tree.specs.declared.tree.Times.{Times}
use Rattle.xsd_pattern.specs.declared.fault.PatternCause.{PatternCause}
use Rattle.xsd_pattern.specs.declared.fault.PatternCause.TheVariants.{Syntax, TooManyRepeats}
use Rattle.xsd_pattern.specs.Characters.{is_digit}

-- how often: at least n times, and at most m
abbrev pub times : ℕ → Option ℕ → Times
times n m = record { least = n; most = m }

abbrev pub most_repeats : ℕ
most_repeats = 1000

-- The number of some digits behind those that have made n.
unfoldable pub number_from : ℕ → List ℕ → ℕ
number_from n [] = n
number_from n (d ∷ ds) = number_from (10 * n + (d - 48)) ds

-- The bound in the repeat whose brace is at `at`, of whose digits n is made, and then the run.
unfoldable pub number : Text → ℕ → List ℕ × Text → Read PatternCause ℕ
number at n r = if nat_le (number_from n r.0) most_repeats then Ok (number_from n r.0, r.1) else refuse TooManyRepeats at

-- one or more digits
unfoldable pub bound : Text → Text → Read PatternCause ℕ
bound at [] = refuse Syntax []
bound at (c ∷ t) = if is_digit c then number at (c - 48) (run is_digit t) else refuse Syntax (c ∷ t)

-- behind the second bound
unfoldable pub closed : Text → ℕ → ℕ → Text → Read PatternCause Times
closed at n m [] = refuse Syntax []
closed at n m (c ∷ t) =
    if c == 125 then (if nat_le n m then Ok (times n (Some m), t) else refuse Syntax at)
    else refuse Syntax (c ∷ t)

-- behind the comma
unfoldable pub behind_comma : Text → ℕ → Text → Read PatternCause Times
behind_comma at n [] = refuse Syntax []
behind_comma at n (c ∷ t) =
    if c == 125 then Ok (times n None, t)
    else (bound at (c ∷ t) >>= λ m. closed at n m.0 m.1)

-- behind the first bound
unfoldable pub behind_bound : Text → ℕ → Text → Read PatternCause Times
behind_bound at n [] = refuse Syntax []
behind_bound at n (c ∷ t) =
    if c == 125 then Ok (times n (Some n), t)
    else if c == 44 then behind_comma at n t
    else refuse Syntax (c ∷ t)

-- behind the brace at `at`
unfoldable pub braces : Text → Text → Read PatternCause Times
braces at t = bound at t >>= λ n. behind_bound at n.0 n.1

abbrev pub some_times : Times × Text → Read PatternCause (Option Times)
some_times x = Ok (Some x.0, x.1)

-- the repeat that stands here, if one does
unfoldable pub repeat_here : Text → Read PatternCause (Option Times)
repeat_here [] = Ok (None, [])
repeat_here (c ∷ t) =
    if c == 42 then Ok (Some (times 0 None), t)
    else if c == 43 then Ok (Some (times 1 None), t)
    else if c == 63 then Ok (Some (times 0 (Some 1)), t)
    else if c == 123 then (braces (c ∷ t) t >>= some_times)
    else Ok (None, c ∷ t)
