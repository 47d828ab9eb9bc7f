-- Lines, and what a top call answers.
use Rattle.std.proofs.Common.{◌≡◌, ℕ, ◌+◌, ◌≤◌, min, List, [], ◌∷◌, ◌++◌, length, Result, Ok, Err, Bool, true, false, refl, ap, eqb, arith, length-append, inl, inr, ◌⊎◌}
use Rattle.reading.specs.declared.stop.Stop.{Stop}
use Rattle.reading.specs.declared.stop.Stop.TheVariants as stop
use Rattle.reading.specs.declared.fault.Fault.{Fault}
use Rattle.reading.specs.Codes.{codes_of}
use Rattle.reading.proofs.Says.{size_codes}
use Rattle.reading.proofs.Tools.{ok_is}
use Rattle.reading.proofs.Turns.{size_enough}
use Rattle.reading.specs.Reading.{Text, Refused, Yields}
use Rattle.reading.specs.Lines.{line_feeds, line_of, place_of, with_line, answer_of, Answers}

false_or_true : (b : Bool) → (b ≡ false) ⊎ (b ≡ true)
false_or_true true = inr refl
false_or_true false = inl refl

pub feeds_append : (xs ys : Text) → line_feeds (xs ++ ys) ≡ line_feeds xs + line_feeds ys
unfolding line_feeds
feeds_append [] ys = omega arith
feeds_append (x ∷ xs) ys =
    elim (false_or_true (eqb x 10)) [
      | inl h ↦ rw h (feeds_append xs ys)
      | inr h ↦ let more = feeds_append xs ys in rw h (omega arith)
    ]

-- the line of a place is 1 plus the line feeds before it
pub line_is : (before left : Text) → line_of (before ++ left) left ≡ min (line_feeds before + 1) 0xFFFF_FFFF
unfolding line_of
line_is before left = omega (arith, feeds_append before left)

-- and its number 1 plus the codes before it
pub place_is : (before left : Text) → place_of (before ++ left) left ≡ min (length before + 1) 0xFFFF_FFFF
unfolding place_of
place_is before left = omega (arith, length-append before left)

-- a top call that ends as reading does answers its value or its fault
pub answers : {C X Y : Type 0} (view : X → Y) (text : Text) (ended : Result X (Stop C)) (read : Result Y (Refused C)) → Yields view ended read → Answers view (answer_of text ended) (with_line text read)
answers view text (Ok x) read e = ap (with_line text) e
answers view text (Err stop.Memory) read e = tt
answers view text (Err (stop.Refused why at)) read e = ap (with_line text) e

-- bytes say no more codes than they are
pub length_codes : (bytes : List ℕ) → length (codes_of bytes) ≤ length bytes
length_codes bytes = omega (arith, size_enough (codes_of bytes), size_codes bytes)

-- a value with no fault was read
pub with_line_ok : {C X : Type 0} (text : Text) (read : Result X (Refused C)) (x : X) → with_line text read ≡ Ok x → read ≡ Ok x
with_line_ok {C = C} {X = X} text (Ok y) x e = let same = ok_is {E = Fault C} y x e in ap (λ (z : X). Ok z) same
with_line_ok text (Err r) x e = absurd cc
