-- The lines of bytes: the first of them, and how many there are.
use Rattle.std.proofs.Common.{◌≡◌, ℕ, zero, suc, ◌+◌, ◌-◌, ◌≤◌, ◌<◌, Bool, true, false, not, cond, List, [], ◌∷◌, Some, None, length, take, drop, length-drop, nat_lt, ◌==◌, refl, ap, ◌∙◌, sym, arith}
use Rattle.std.proofs.lemmas.List.{take_all}
use Rattle.std.proofs.lemmas.List.Sums.{sum_by-cons}
use Rattle.std.proofs.lemmas.Bool.Decides.{nat_tests}
use Rattle.std.specs.List.{position_or_len, position, count_by}
use Rattle.script_read.specs.Lines.{Pieces, cut, with_byte, lines_of, without_return}
use Rattle.script_read.specs.Lines.{last, before_feed}

abbrev feed : ℕ → Bool
feed b = b == 10

at_feed : (p : Bool) (k : ℕ) → cond (not p) (1 + k) 0 ≡ 0 → p ≡ true
at_feed true k e = refl
at_feed false k e = absurd (omega arith)

behind_byte : (p : Bool) (k m : ℕ) → cond (not p) (1 + k) 0 ≡ suc m → (p ≡ false) × (k ≡ m)
behind_byte true k m e = absurd (omega arith)
behind_byte false k m e = (refl, omega arith)

-- where a line feed comes first at n, the first line is what stands before it
pub cut_first : (bytes : List ℕ) (n : ℕ) → position_or_len feed bytes ≡ n → n < length bytes → cut bytes ≡ before_feed (take n bytes) (cut (drop (n + 1) bytes))
unfolding cut
cut_first [] n e lt = absurd (omega arith)
cut_first (b ∷ bytes) zero e lt = let is = at_feed (feed b) (position_or_len feed bytes) e in rw is refl
cut_first (b ∷ bytes) (suc m) e lt =
    let is = behind_byte (feed b) (position_or_len feed bytes) m e in
    let less : m < length bytes = omega arith in
    let next : suc m + 1 ≡ suc (m + 1) = omega arith in
    rw (is.0, next) (ap (with_byte b) (cut_first bytes m is.1 less))

no_feed : (p : Bool) (k n : ℕ) → suc n ≤ cond (not p) (1 + k) 0 → (p ≡ false) × (n ≤ k)
no_feed true k n e = absurd (omega arith)
no_feed false k n e = (refl, omega arith)

-- with no line feed there is no line
pub cut_none : (bytes : List ℕ) → length bytes ≤ position_or_len feed bytes → cut bytes ≡ last bytes
unfolding cut
cut_none [] e = refl
cut_none (b ∷ bytes) e =
    let is = no_feed (feed b) (position_or_len feed bytes) (length bytes) e in
    rw is.0 (ap (with_byte b) (cut_none bytes is.1))

found : (p : Bool) (k n : ℕ) → cond p (Some k) None ≡ Some n → (p ≡ true) × (k ≡ n)
found true k n e = (refl, cc)
found false k n e = absurd (cc)

not_found : (p : Bool) (k : ℕ) → cond p (Some k) None ≡ None → p ≡ false
not_found true k e = absurd (cc)
not_found false k e = refl

nat_lt_true : (a b : ℕ) → nat_lt a b ≡ true → a < b
nat_lt_true a b e = grind (arith, nat_tests)

nat_lt_false : (a b : ℕ) → nat_lt a b ≡ false → b ≤ a
nat_lt_false a b e = grind (arith, nat_tests)

-- what `position` found, or did not find
pub cut_at : (bytes : List ℕ) (n : ℕ) → position feed bytes ≡ Some n → cut bytes ≡ before_feed (take n bytes) (cut (drop (n + 1) bytes))
cut_at bytes n e =
    let is = found (nat_lt (position_or_len feed bytes) (length bytes)) (position_or_len feed bytes) n e in
    cut_first bytes n is.1 (omega (arith, nat_lt_true _ _ is.0, is.1))

pub cut_nowhere : (bytes : List ℕ) → position feed bytes ≡ None → cut bytes ≡ last bytes
cut_nowhere bytes e = cut_none bytes (nat_lt_false (position_or_len feed bytes) (length bytes) (not_found (nat_lt (position_or_len feed bytes) (length bytes)) (position_or_len feed bytes) e))

-- the first line and what follows it, which is cut as the rest of the bytes
pub cut_rest : (bytes rest : List ℕ) (n : ℕ) → bytes ≡ rest → position feed rest ≡ Some n → cut bytes ≡ before_feed (take n rest) (cut (take (length rest - (n + 1)) (drop (n + 1) rest)))
cut_rest bytes rest n same e =
    ap cut same ∙ cut_at rest n e ∙ ap (λ (t : List ℕ). before_feed (take n rest) (cut t)) (sym (take_all (length rest - (n + 1)) (drop (n + 1) rest) (omega (arith, length-drop (n + 1) rest))))

-- without a line feed all of the bytes are left
pub cut_left : (bytes rest : List ℕ) → bytes ≡ rest → position feed rest ≡ None → cut bytes ≡ last bytes
cut_left bytes rest same e = ap cut same ∙ cut_nowhere rest e ∙ ap last (sym same)

same_count : (b : ℕ) (pieces : Pieces) → length (lines_of (with_byte b pieces)) ≡ length (lines_of pieces)
unfolding lines_of
same_count b (last rest) = refl
same_count b (before_feed first others) = refl

one_more : (p : Bool) (b : ℕ) (pieces : Pieces) (n : ℕ) → length (lines_of pieces) ≡ n + 1 → length (lines_of (cond p (before_feed [] pieces) (with_byte b pieces))) ≡ (cond p 1 0 + n) + 1
unfolding lines_of
one_more true b pieces n e = omega (arith, e)
one_more false b pieces n e = omega (arith, e, same_count b pieces)

-- there is one line more than there are line feeds
pub line_total : (bytes : List ℕ) → length (lines_of (cut bytes)) ≡ count_by feed bytes + 1
unfolding cut lines_of
line_total [] = refl
line_total (b ∷ bytes) = one_more (feed b) b (cut bytes) (count_by feed bytes) (line_total bytes) ∙ ap (λ (n : ℕ). n + 1) (sym (sum_by-cons (λ x. cond (feed x) 1 0) b bytes))
