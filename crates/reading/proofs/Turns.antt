-- Turns never run out.
use Rattle.std.proofs.Common.{◌≡◌, ℕ, zero, suc, ◌<◌, ◌≤◌, Bool, true, false, cond, [], ◌∷◌, length, Ok, Err, refl, ap, ◌∙◌, arith}
use Rattle.std.specs.Char.{encode_utf8}
use Rattle.std.proofs.lemmas.Bool.Decides.{nat_tests}
use Rattle.reading.specs.Codes.{is_mark, width, size_of}
use Rattle.reading.specs.Reading.{Text, Read, Turn, Shortens, ◌>>=◌, each, turns, all_turns}

encode_some : (c : ℕ) → 0 < length (encode_utf8 c)
unfolding encode_utf8
encode_some c = grind (arith, nat_tests)

width_if : (b : Bool) (n : ℕ) → 0 < n → 0 < cond b 1 n
width_if true n some = omega arith
width_if false n some = some

width_some : (c : ℕ) → 0 < width c
unfolding width
width_some c = width_if (is_mark c) (length (encode_utf8 c)) (encode_some c)

pub size_enough : (t : Text) → length t ≤ size_of t
unfolding size_of
size_enough [] = omega arith
size_enough (c ∷ t) = omega (arith, width_some c, size_enough t)

pub turns_enough : (t : Text) → length t < turns t
unfolding turns
turns_enough t = omega (arith, size_enough t)

same_after : {C S : Type 0} (why other : C) (turn : Turn C S) (n m : ℕ) (x : Read C (Bool × S))
    → ((r : S) (u : Text) → x ≡ Ok ((true, r), u) → each why turn n r u ≡ each other turn m r u)
    → (x >>= λ y. cond y.0.0 (each why turn n y.0.1 y.1) (Ok (y.0.1, y.1))) ≡ (x >>= λ y. cond y.0.0 (each other turn m y.0.1 y.1) (Ok (y.0.1, y.1)))
same_after why other turn n m (Err e) h = refl
same_after why other turn n m (Ok ((true, r), u)) h = h r u refl
same_after why other turn n m (Ok ((false, r), u)) h = refl

-- any two numbers of turns above the length give the same, whatever the cause is that would be given where they are spent
pub each_same : {C S : Type 0} (turn : Turn C S) → Shortens turn → (why other : C) (n m : ℕ) (s : S) (t : Text) → length t < n → length t < m → each why turn n s t ≡ each other turn m s t
unfolding each
each_same turn less why other zero m s t a b = absurd (omega arith)
each_same turn less why other (suc n) zero s t a b = absurd (omega arith)
each_same turn less why other (suc n) (suc m) s t a b =
    same_after why other turn n m (turn s t) (λ r u e. let shorter = less s t r u e in each_same turn less why other n m r u (omega arith) (omega arith))

-- so a loop of all turns is one of any greater number
pub is_enough : {C S : Type 0} (turn : Turn C S) → Shortens turn → (why other : C) (n : ℕ) (s : S) (t : Text) → length t < n → each why turn n s t ≡ all_turns other turn s t
is_enough turn less why other n s t le = each_same turn less why other n (turns t) s t le (turns_enough t)

after_turn : {C S : Type 0} (why : C) (turn : Turn C S) (n : ℕ) (x : Read C (Bool × S))
    → ((r : S) (u : Text) → x ≡ Ok ((true, r), u) → each why turn n r u ≡ all_turns why turn r u)
    → (x >>= λ y. cond y.0.0 (each why turn n y.0.1 y.1) (Ok (y.0.1, y.1))) ≡ (x >>= λ y. cond y.0.0 (all_turns why turn y.0.1 y.1) (Ok (y.0.1, y.1)))
after_turn why turn n (Err e) h = refl
after_turn why turn n (Ok ((true, r), u)) h = h r u refl
after_turn why turn n (Ok ((false, r), u)) h = refl

-- one turn, and then all turns from what it left
pub first_turn : {C S : Type 0} (turn : Turn C S) → Shortens turn → (why : C) (s : S) (t : Text)
    → all_turns why turn s t ≡ (turn s t >>= λ x. cond x.0.0 (all_turns why turn x.0.1 x.1) (Ok (x.0.1, x.1)))
unfolding each turns
first_turn turn less why s t =
    let next : turns t ≡ suc (size_of t) = omega arith in
    ap (λ (n : ℕ). each why turn n s t) next
    ∙ after_turn why turn (size_of t) (turn s t) (λ r u e. let shorter = less s t r u e in is_enough turn less why why (size_of t) r u (omega (arith, size_enough t)))
