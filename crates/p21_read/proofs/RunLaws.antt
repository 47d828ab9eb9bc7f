-- Runs of digits and of the letters of words.
use Rattle.std.proofs.Common.{◌≡◌, ℕ, zero, suc, ◌+◌, ◌*◌, ◌-◌, ◌^◌, ◌<◌, ◌≤◌, min, Bool, true, false, List, [], ◌∷◌, ◌++◌, length, map, refl, sym, ap, ◌∙◌, subst, inl, inr, append_assoc, arith}
use Rattle.std.proofs.Math.Bool.{and-true}
use Rattle.std.proofs.lemmas.Bool.{and_parts}
use Rattle.std.specs.Prelude.{fold, not, ◌&&◌, ◌==◌}
use Rattle.std.specs.List.{list_all}
use Rattle.std.specs.Char.{is_ascii_digit, is_ascii_lowercase, to_ascii_uppercase}
use Rattle.std.proofs.lemmas.List.{append-nil}
use Rattle.std.proofs.lemmas.Bool.Decides.{nat_tests}
use Rattle.reading.specs.Reading.{Text}
use Rattle.reading.specs.Runs.{begins, IsRun, run}
use Rattle.reading.proofs.Tools.{tested}
use Rattle.reading.proofs.RunLaws.{run_only}
use Rattle.p21_read.specs.declared.number.Digits.{Digits}
use Rattle.p21_read.specs.declared.word.Word.{Word}
use Rattle.p21_read.specs.Numbers.{with_digit, digits, no_digits, is_numeral}
use Rattle.p21_read.specs.Words.{gather, with_letter, no_word, is_word, word}
use Rattle.p21_read.specs.TokenGrammar.{number_of, word_of}

and_assoc : (a b c : Bool) → ((a && b) && c) ≡ (a && (b && c))
and_assoc true b c = refl
and_assoc false b c = refl

-- ---- what is gathered

pub digits_run : (t : Text) (d : Digits) → digits d t ≡ (fold with_digit d (run is_ascii_digit t).0, (run is_ascii_digit t).1)
unfolding digits run
digits_run [] d = refl
digits_run (c ∷ t) d =
    elim (tested (is_ascii_digit c)) [
      | inl h ↦ rw h (digits_run t (with_digit d c))
      | inr h ↦ rw h refl
    ]

pub digits_are : {t xs u : Text} (d : Digits) → IsRun is_ascii_digit t xs u → digits d t ≡ (fold with_digit d xs, u)
digits_are {t = t} d r = digits_run t d ∙ ap (λ (p : Text × Text). (fold with_digit d p.0, p.1)) (run_only r)

pub gather_run : (class : ℕ → Bool) (kept : ℕ → ℕ) (t : Text) (s : List ℕ) → gather class kept s t ≡ (s ++ map kept (run class t).0, (run class t).1)
unfolding gather run
gather_run class kept [] s = ap (λ (r : List ℕ). (r, [])) (sym (append-nil s))
gather_run class kept (c ∷ t) s =
    elim (tested (class c)) [
      | inl h ↦ rw h (gather_run class kept t (s ++ kept c ∷ []) ∙ ap (λ (r : List ℕ). (r, (run class t).1)) (append_assoc s (kept c ∷ []) (map kept (run class t).0)))
      | inr h ↦ rw h (ap (λ (r : List ℕ). (r, c ∷ t)) (sym (append-nil s)))
    ]

pub gathered : {class : ℕ → Bool} {t xs u : Text} (kept : ℕ → ℕ) (s : List ℕ) → IsRun class t xs u → gather class kept s t ≡ (s ++ map kept xs, u)
gathered {class = class} {t = t} kept s r = gather_run class kept t s ∙ ap (λ (p : Text × Text). (s ++ map kept p.0, p.1)) (run_only r)

-- ---- words

abbrev big : ℕ → Bool
big c = not (is_ascii_lowercase c)

abbrev joint : ℕ → Bool
joint c = not (c == 45)

abbrev word_with : Word → List ℕ → Word
word_with w xs = record { name = w.name ++ map to_ascii_uppercase xs; capitals = w.capitals && list_all big xs; plain = w.plain && list_all joint xs }

letters_are : (xs : List ℕ) (w : Word) → fold with_letter w xs ≡ word_with w xs
letters_are [] w = rw (append-nil w.name, and-true w.capitals, and-true w.plain) refl
letters_are (x ∷ xs) w =
    letters_are xs (with_letter w x)
    ∙ rw (append_assoc w.name (to_ascii_uppercase x ∷ []) (map to_ascii_uppercase xs), and_assoc w.capitals (big x) (list_all big xs), and_assoc w.plain (joint x) (list_all joint xs)) refl

word_run : (t : Text) (w : Word) → word w t ≡ (fold with_letter w (run is_word t).0, (run is_word t).1)
unfolding word run
word_run [] w = refl
word_run (c ∷ t) w =
    elim (tested (is_word c)) [
      | inl h ↦ rw h (word_run t (with_letter w c))
      | inr h ↦ rw h refl
    ]

pub word_gives : (c : ℕ) (t : Text) → word (with_letter no_word c) t ≡ (word_of (c ∷ (run is_word t).0), (run is_word t).1)
word_gives c t = word_run t (with_letter no_word c) ∙ ap (λ (w : Word). (w, (run is_word t).1)) (letters_are (run is_word t).0 (with_letter no_word c))

pub word_is : {t xs u : Text} (c : ℕ) → IsRun is_word t xs u → word (with_letter no_word c) t ≡ (word_of (c ∷ xs), u)
word_is {t = t} c r = word_gives c t ∙ ap (λ (p : Text × Text). (word_of (c ∷ p.0), p.1)) (run_only r)

-- ---- numbers that are cut

count_is : (xs : List ℕ) (d : Digits) → d.count ≤ 19 → (fold with_digit d xs).count ≡ min (d.count + length xs) 19
count_is [] d le = omega arith
count_is (x ∷ xs) d le = count_is xs (with_digit d x) (omega arith) ∙ omega arith

cut : (most v w x : ℕ) → v ≡ min w most → min (10 * v + x) most ≡ min (10 * w + x) most
cut most v w x e = omega (arith, e)

value_is : (xs : List ℕ) (d : Digits) (n : ℕ) → d.value ≡ min n (10 ^ 18) → (fold with_digit d xs).value ≡ min (fold (λ m c. 10 * m + (c - 48)) n xs) (10 ^ 18)
value_is [] d n e = e
value_is (x ∷ xs) d n e = value_is xs (with_digit d x) (10 * n + (x - 48)) (cut (10 ^ 18) d.value n (x - 48) e)

-- what is known of the digits that were read
pub record AreRead (xs : List ℕ) (d : Digits) : Type 0 where
  pub count : d.count ≡ min (length xs) 19
  pub value : d.value ≡ min (number_of xs) (10 ^ 18)

pub are_read : (xs : List ℕ) → AreRead xs (fold with_digit no_digits xs)
are_read xs = record { count = omega (arith, count_is xs no_digits (omega arith)); value = value_is xs no_digits 0 refl }

abbrev tens : ℕ → ℕ
tens zero = 1
tens (suc n) = 10 * tens n

tens_grow : (a b : ℕ) → a ≤ b → tens a ≤ tens b
tens_grow zero zero le = omega arith
tens_grow zero (suc b) le = omega (arith, tens_grow zero b (omega arith))
tens_grow (suc a) zero le = absurd (omega arith)
tens_grow (suc a) (suc b) le = omega (arith, tens_grow a b (omega arith))

digit_below : (x : ℕ) → is_ascii_digit x ≡ true → x - 48 ≤ 9
digit_below x is = grind (arith, nat_tests)

digits_bound : (xs : List ℕ) (n v : ℕ) → list_all is_ascii_digit xs ≡ true → v < tens n → fold (λ m c. 10 * m + (c - 48)) v xs < tens (n + length xs)
digits_bound [] n v all lt = let same : n + 0 ≡ n = omega arith in rw same lt
digits_bound (x ∷ xs) n v all lt =
    let k = and_parts (is_ascii_digit x) (list_all is_ascii_digit xs) all in
    let small = digit_below x k.0 in
    let next : 10 * v + (x - 48) < tens (suc n) = omega (arith, small, lt) in
    let same : suc n + length xs ≡ n + suc (length xs) = omega arith in
    subst (λ (m : ℕ). fold (λ m c. 10 * m + (c - 48)) (10 * v + (x - 48)) xs < tens m) same (digits_bound xs (suc n) (10 * v + (x - 48)) k.1 next)

pub number_below : (xs : List ℕ) → list_all is_ascii_digit xs ≡ true → length xs ≤ 18 → number_of xs < 10 ^ 18
number_below xs all le =
    let b : number_of xs < tens (0 + length xs) = digits_bound xs 0 0 all (omega arith) in
    let g : tens (0 + length xs) ≤ tens 18 = tens_grow (0 + length xs) 18 (omega arith) in
    omega (arith, b, g)

-- ---- numerals

pub digit_numeral : (c : ℕ) → is_ascii_digit c ≡ true → is_numeral c ≡ true
digit_numeral c is = rw is refl

-- the characters of a numeral are all digits where nothing of it follows the digits
pub all_digits : (t : Text) → list_all is_ascii_digit (run is_numeral t).0 ≡ not (begins is_numeral (run is_ascii_digit t).1)
unfolding run
all_digits [] = refl
all_digits (c ∷ t) =
    elim (tested (is_ascii_digit c)) [
      | inl h ↦ let more = all_digits t in rw (digit_numeral c h, h) more
      | inr h ↦ elim (tested (is_numeral c)) [
        | inl k ↦ rw (k, h, k) refl
        | inr k ↦ rw (k, h, k) refl
      ]
    ]
