-- What is written, digit by digit.
use Rattle.std.proofs.Common.{◌≡◌, ℕ, zero, suc, ◌+◌, ◌-◌, ◌*◌, ◌/◌, ◌%◌, ◌^◌, ◌<◌, Bool, true, false, eqb, [], ◌∷◌, ◌++◌, refl, sym, ap, ◌∙◌, inl, inr, ◌⊎◌, append_assoc, arith}
use Rattle.std.specs.Prelude.{◌&&◌, ℤ, pos, negsuc, nat_abs}
use Rattle.std.specs.List.{list_all}
use Rattle.std.specs.Str.{IsAscii, chars}
use Rattle.std.specs.Fmt.{decimal}
use Rattle.std.proofs.lemmas.Fmt.{IsAscii-decimal_wide}
use Rattle.std.proofs.lemmas.Str.{chars-IsAscii, IsAscii-append}
use Rattle.std.proofs.lemmas.Str.Ascii.{IsAscii-nil, IsAscii-cons}
use Rattle.ifc_base.specs.declared.value.Decimal.{Decimal}
use Rattle.std.proofs.lemmas.Bool.{eqb-true, cases_Bool}
use Rattle.std.proofs.lemmas.List.{append-nil}
use Rattle.std.proofs.lemmas.Nat.{div-mul-add}
use Rattle.std.proofs.Math.Nat.{div-lt_iff_lt-mul}
use Rattle.decimal_fix.specs.Numerals.{Text}
use Rattle.decimal_fix.specs.Writing.{places, without_zeros, minus, past, written_size, written_as, written}
use Rattle.decimal_fix.proofs.RoundingLaws.{ten_more, some_power}

-- ---- the digits of a fraction

pub below_unit : (n u : ℕ) → n < u → n / u ≡ 0
below_unit n u lt = let as_sum : n ≡ 0 * u + n = omega arith in ap (λ (m : ℕ). m / u) as_sum ∙ div-mul-add 0 u n lt

pub first_digit : (n k : ℕ) → n < 10 ^ suc k → n / 10 ^ k < 10
first_digit n k lt =
    let some : 0 < 10 ^ k = some_power k in
    let less : n < 10 * 10 ^ k = omega (arith, lt, ten_more k) in
    (div-lt_iff_lt-mul some).1 less

abbrev zeros : Text → Bool
zeros t = list_all (λ d. eqb d 48) t

and_true : (a b : Bool) → (a && b) ≡ true → (a ≡ true) × (b ≡ true)
and_true true b e = (refl, e)
and_true false b e = absurd cc

-- digits that are all 0 write nothing
zeros_write : (k n : ℕ) → n < 10 ^ k → zeros (places k n) ≡ true → n ≡ 0
unfolding places
zeros_write zero n lt all = omega (arith, lt)
zeros_write (suc k) n lt all =
    let two = and_true (eqb (48 + n / 10 ^ k) 48) (zeros (places k (n % 10 ^ k))) all in
    let first = eqb-true (48 + n / 10 ^ k) 48 two.0 in
    let some = some_power k in
    let left : n % 10 ^ k < 10 ^ k = omega (arith, some) in
    let rest = zeros_write k (n % 10 ^ k) left two.1 in
    let none : n / 10 ^ k ≡ 0 = omega (arith, first) in
    let is : 10 ^ k * (n / 10 ^ k) + n % 10 ^ k ≡ n = omega (arith, some) in
    let product : 10 ^ k * (n / 10 ^ k) ≡ 0 = rw none (omega arith) in
    omega (arith, is, product, rest)

-- where something is left there is a digit more
pub one_more : (k n : ℕ) → n < 10 ^ suc k → (n ≡ 0 → ⊥) → without_zeros (places (suc k) n) ≡ (48 + n / 10 ^ k) ∷ without_zeros (places k (n % 10 ^ k))
unfolding places
one_more k n lt some =
    elim (cases_Bool (zeros ((48 + n / 10 ^ k) ∷ places k (n % 10 ^ k)))) [
      | inr h ↦ rw h refl
      | inl h ↦ absurd (some (zeros_write (suc k) n lt h))
    ]

no_zeros : (k : ℕ) → zeros (places k 0) ≡ true
unfolding places
no_zeros zero = refl
no_zeros (suc k) =
    let some = some_power k in
    let none : 0 % 10 ^ k ≡ 0 = omega (arith, some) in
    rw (below_unit 0 (10 ^ k) some, none) (no_zeros k)

all_zeros : (t : Text) → zeros t ≡ true → without_zeros t ≡ []
all_zeros [] e = refl
all_zeros (c ∷ t) e = rw e refl

-- where nothing is left the text ends
pub no_more : (k : ℕ) → without_zeros (places k 0) ≡ []
no_more k = all_zeros (places k 0) (no_zeros k)

-- what is written so far, and what is left
pub record HasDigits (before now : Text) (units rest place at : ℕ) : Type 0 where
  pub place_is : place ≡ 10 ^ (15 - at)
  pub left : rest < place
  pub text : before ++ without_zeros (places 15 units) ≡ now ++ without_zeros (places (15 - at) rest)

-- the next digit is one
pub next_digit : (before now : Text) (units rest place at : ℕ) → HasDigits before now units rest place at → at < 15 → (0 < place / 10) × (rest / (place / 10) < 10)
next_digit before now units rest place at has lt =
    let k = 15 - (at + 1) in
    let one : 15 - at ≡ suc k = omega (arith, lt) in
    let wide : place ≡ 10 ^ k * 10 = has.place_is ∙ ap (λ (j : ℕ). 10 ^ j) one ∙ ten_more k in
    let next : place / 10 ≡ 10 ^ k = omega (arith, wide) in
    let full : rest < 10 ^ suc k = omega (arith, wide, has.left, ten_more k) in
    rw next (some_power k, first_digit rest k full)

pub digit_follows : (before now : Text) (units rest place at d : ℕ) → HasDigits before now units rest place at → at < 15 → (rest ≡ 0 → ⊥) → d ≡ 48 + rest / (place / 10)
    → HasDigits before (now ++ d ∷ []) units (rest % (place / 10)) (place / 10) (at + 1)
digit_follows before now units rest place at d has lt some is =
    let k = 15 - (at + 1) in
    let one : 15 - at ≡ suc k = omega (arith, lt) in
    let wide : place ≡ 10 ^ k * 10 = has.place_is ∙ ap (λ (j : ℕ). 10 ^ j) one ∙ ten_more k in
    let next : place / 10 ≡ 10 ^ k = omega (arith, wide) in
    let full : rest < 10 ^ suc k = omega (arith, wide, has.left, ten_more k) in
    let u = some_power k in
    record {
      place_is = next;
      left = omega (arith, next, u);
      text =
          has.text ∙ ap (λ (j : ℕ). now ++ without_zeros (places j rest)) one ∙ ap (λ (t : Text). now ++ t) (one_more k rest full some)
          ∙ rw (is, next) (sym (append_assoc now ((48 + rest / 10 ^ k) ∷ []) (without_zeros (places k (rest % 10 ^ k)))));
    }

pub digits_end : (before now : Text) (units rest place at : ℕ) → HasDigits before now units rest place at → rest ≡ 0 → now ≡ before ++ without_zeros (places 15 units)
digits_end before now units rest place at has none =
    let nothing : without_zeros (places (15 - at) rest) ≡ [] = rw none (no_more (15 - at)) in
    sym (has.text ∙ rw nothing (append-nil now))

-- after the last place nothing is left
pub digits_all : (before now : Text) (units rest place at : ℕ) → HasDigits before now units rest place at → at ≡ 15 → now ≡ before ++ without_zeros (places 15 units)
digits_all before now units rest place at has e =
    let none : 15 - at ≡ 0 = omega (arith, e) in
    let one : place ≡ 10 ^ 0 = has.place_is ∙ ap (λ (j : ℕ). 10 ^ j) none in
    digits_end before now units rest place at has (omega (arith, one, has.left))

-- ---- the whole text

pub IsAscii-minus : (z : ℤ) → IsAscii (minus z)
IsAscii-minus (pos n) = IsAscii-nil
IsAscii-minus (negsuc n) = IsAscii-cons 45 [] (omega arith) IsAscii-nil

pub IsAscii-past : IsAscii past
IsAscii-past =
    let a = IsAscii-cons 54 [] (omega arith) IsAscii-nil in
    let b = IsAscii-cons 49 (54 ∷ []) (omega arith) a in
    let c = IsAscii-cons 69 (49 ∷ 54 ∷ []) (omega arith) b in
    let d = IsAscii-cons 46 (69 ∷ 49 ∷ 54 ∷ []) (omega arith) c in
    IsAscii-cons 49 (46 ∷ 69 ∷ 49 ∷ 54 ∷ []) (omega arith) d

-- the text of a number that is Beyond
pub past_is : (a : Decimal) (bytes : Text) → a.beyond ≡ true → bytes ≡ minus a.units ++ past → chars bytes ≡ written a
unfolding written
past_is a bytes beyond is =
    let ascii = IsAscii-append (minus a.units) past (IsAscii-minus a.units) IsAscii-past in
    ap chars is ∙ chars-IsAscii (minus a.units ++ past) ascii ∙ ap (λ (b : Bool). written_as b a.units) (sym beyond)

-- the text of any other, with its front and its fraction
pub size_is : (a : Decimal) (size : ℕ) (front name : Text) → a.beyond ≡ false → size ≡ nat_abs a.units → size / 10 ^ 15 < 10 ^ 64 → front ≡ minus a.units ++ (decimal (size / 10 ^ 15) ++ (46 ∷ []))
    → name ≡ chars front ++ without_zeros (places 15 (size % 10 ^ 15)) → name ≡ written a
unfolding written written_size
size_is a size front name known size-is short front-is name-is =
    let q = decimal (size / 10 ^ 15) in
    let f = without_zeros (places 15 (size % 10 ^ 15)) in
    let point : IsAscii (46 ∷ []) = IsAscii-cons 46 [] (omega arith) IsAscii-nil in
    let ascii = IsAscii-append (minus a.units) (q ++ (46 ∷ [])) (IsAscii-minus a.units) (IsAscii-append q (46 ∷ []) (IsAscii-decimal_wide (size / 10 ^ 15) short) point) in
    let same : chars front ≡ minus a.units ++ (q ++ (46 ∷ [])) = ap chars front-is ∙ chars-IsAscii (minus a.units ++ (q ++ (46 ∷ []))) ascii in
    let parts : (minus a.units ++ (q ++ (46 ∷ []))) ++ f ≡ minus a.units ++ (q ++ (46 ∷ f)) = simp append_assoc in
    name-is ∙ ap (λ (t : Text). t ++ f) same ∙ parts ∙ ap (λ (n : ℕ). minus a.units ++ written_size n) size-is ∙ ap (λ (b : Bool). written_as b a.units) (sym known)
