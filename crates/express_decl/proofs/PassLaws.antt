-- Words, signs and texts that are passed: what is passed is of the grammar, and what is of the grammar is passed.
use Rattle.std.proofs.Common.{◌≡◌, ℕ, zero, suc, ◌+◌, ◌<◌, Bool, true, false, not, List, ◌∷◌, length, Ok, eqb, refl, sym, ap, ◌∙◌, subst, inl, inr, arith}
use Rattle.std.proofs.lemmas.Bool.Decides.{nat_tests}
use Rattle.reading.specs.Reading.{Text, Read, ◌>>=◌, turns, all_turns}
use Rattle.reading.proofs.Tools.{bound, kept, passed, tested, each_sound, Run, all_run}
use Rattle.express_decl.specs.declared.decl.DeclCause.{DeclCause}
use Rattle.express_decl.specs.declared.decl.DeclCause.TheVariants.{Unexpected}
use Rattle.express_decl.specs.Tokens.{Token, Word, Quoted, Sign, says, is_sign}
use Rattle.express_decl.specs.Steps.{next, word_of, word, keyword, sign, to_word, to_semicolon, type_text, parenthesis_closed, parenthesis_turn, in_parentheses}
use Rattle.express_decl.specs.Lexical.{Tokens}
use Rattle.express_decl.specs.Grammar.{UpTo, TypeText, InParentheses}
use Rattle.express_decl.proofs.DeclTools.{given, turned, same, value_of, left_of, flag_of, state_of, never_last, never_more}
use Rattle.express_decl.proofs.StepLaws.{sign_is, next_sound, step}

-- What reading gave: this value, and these tokens behind it.
pub record Comes {A : Type 0} (t : Text) (read : Read DeclCause A) (value : A) (ys : List Token) : Type 0 where
  pub left : Text
  pub gives : read ≡ Ok (value, left)
  pub others : Tokens left ys
  pub less : length left < length t

-- ---- words and signs

pub word_of_is : (at : Text) (x : Token) (t : Text) (w : List ℕ) (u : Text) → word_of at x t ≡ Ok (w, u) → (x ≡ Word w) × (t ≡ u)
word_of_is at (Word v) t w u e = (ap (λ (n : List ℕ). Word n) (value_of e), left_of e)
word_of_is at Quoted t w u e = absurd cc
word_of_is at (Sign c) t w u e = absurd cc

pub word_sound : (opened t : Text) (w : List ℕ) (u : Text) {ys : List Token} → word opened t ≡ Ok (w, u) → Tokens u ys → Tokens t (Word w ∷ ys)
unfolding word
word_sound opened t w u {ys = ys} e rest =
    let b = bound {r = next opened t} e in
    let is = word_of_is b.0.0.at b.0.0.token b.0.1 w u b.2 in
    subst (λ (x : Token). Tokens t (x ∷ ys)) is.0 (next_sound opened t b.0 b.1 (subst (λ (v : Text). Tokens v ys) (sym is.1) rest))

pub word_comes : {t : Text} {w : List ℕ} {ys : List Token} (opened : Text) → Tokens t (Word w ∷ ys) → Comes t (word opened t) w ys
unfolding word
word_comes opened all = let s = step opened all in record { left = s.left; gives = rw s.read refl; others = s.others; less = s.less }

pub keyword_sound : (wanted : List ℕ) (opened t : Text) (y : Text × Text) {ys : List Token} → keyword wanted opened t ≡ Ok y → Tokens y.1 ys
    → (x : Token) × (says wanted x ≡ true) × Tokens t (x ∷ ys)
unfolding keyword
keyword_sound wanted opened t y {ys = ys} e rest =
    let b = bound {r = next opened t} e in
    let k = kept (says wanted b.0.0.token) (Ok (b.0.0.at, b.0.1)) Unexpected b.0.0.at y b.2 in
    let left : b.0.1 ≡ y.1 = ap (λ (z : Text × Text). z.1) (same k.1) in
    (b.0.0.token, k.0, next_sound opened t b.0 b.1 (subst (λ (v : Text). Tokens v ys) (sym left) rest))

-- the keyword, and where it stands
pub keyword_comes : {t : Text} {x : Token} {ys : List Token} (wanted : List ℕ) (opened : Text) → says wanted x ≡ true → Tokens t (x ∷ ys)
    → (at : Text) × Comes t (keyword wanted opened t) at ys
unfolding keyword
keyword_comes wanted opened is all = let s = step opened all in (s.at, record { left = s.left; gives = rw (s.read, is) refl; others = s.others; less = s.less })

pub sign_sound : (c : ℕ) (opened t : Text) (y : Unit {0} × Text) {ys : List Token} → sign c opened t ≡ Ok y → Tokens y.1 ys → Tokens t (Sign c ∷ ys)
unfolding sign
sign_sound c opened t y {ys = ys} e rest =
    let b = bound {r = next opened t} e in
    let k = kept (is_sign c b.0.0.token) (Ok (tt, b.0.1)) Unexpected b.0.0.at y b.2 in
    let left : b.0.1 ≡ y.1 = ap (λ (z : Unit {0} × Text). z.1) (same k.1) in
    subst (λ (x : Token). Tokens t (x ∷ ys)) (sign_is c b.0.0.token k.0) (next_sound opened t b.0 b.1 (subst (λ (v : Text). Tokens v ys) (sym left) rest))

eqb_self : (n : ℕ) → eqb n n ≡ true
eqb_self n = grind (arith, nat_tests)

sign_self : (c : ℕ) → is_sign c (Sign c) ≡ true
unfolding is_sign
sign_self c = eqb_self c

pub sign_comes : {t : Text} {ys : List Token} (c : ℕ) (opened : Text) → Tokens t (Sign c ∷ ys) → Comes t (sign c opened t) tt ys
unfolding sign
sign_comes c opened all = let s = step opened all in record { left = s.left; gives = rw (s.read, sign_self c) refl; others = s.others; less = s.less }

-- ---- tokens up to one of a kind

module _ (last : Token → Bool) (opened : Text) where
  abbrev up_turn : Unit {0} → Text → Read DeclCause (Bool × Unit {0})
  up_turn s t = next opened t >>= λ x. Ok ((not (last x.0.token), tt), x.1)

  -- what is passed before the tokens behind it
  abbrev Passes : Unit {0} → Text → Unit {0} → Text → Type 0
  Passes s t r u = (ys : List Token) → Tokens u ys → (xs : List Token) × Tokens t xs × UpTo last xs ys

  not_false : (b : Bool) → not b ≡ false → b ≡ true
  not_false true e = refl
  not_false false e = absurd cc

  not_true : (b : Bool) → not b ≡ true → b ≡ false
  not_true true e = absurd cc
  not_true false e = refl

  up_last : (s : Unit {0}) (t : Text) (r : Unit {0}) (u : Text) → up_turn s t ≡ Ok ((false, r), u) → Passes s t r u
  up_last s t r u e ys rest =
      let b = bound {r = next opened t} e in
      let is : last b.0.0.token ≡ true = not_false (last b.0.0.token) (flag_of b.2) in
      (b.0.0.token ∷ ys, next_sound opened t b.0 b.1 (subst (λ (v : Text). Tokens v ys) (sym (left_of b.2)) rest), UpTo.here is)

  up_more : (s : Unit {0}) (t : Text) (r : Unit {0}) (u : Text) (q : Unit {0}) (w : Text) → up_turn s t ≡ Ok ((true, r), u) → Passes r u q w → Passes s t q w
  up_more s t r u q w e more ys rest =
      let b = bound {r = next opened t} e in
      let isnt : last b.0.0.token ≡ false = not_true (last b.0.0.token) (flag_of b.2) in
      let m = more ys rest in
      (b.0.0.token ∷ m.0, next_sound opened t b.0 b.1 (subst (λ (v : Text). Tokens v m.0) (sym (left_of b.2)) m.1), UpTo.later isnt m.2)

  pub up_sound : (t : Text) (y : Unit {0} × Text) {ys : List Token} → all_turns Unexpected up_turn tt t ≡ Ok y → Tokens y.1 ys → (xs : List Token) × Tokens t xs × UpTo last xs ys
  up_sound t y {ys = ys} e rest = each_sound Unexpected up_turn Passes up_last up_more (turns t) tt t y.0 y.1 e ys rest

  up_runs : {t : Text} {xs ys : List Token} → UpTo last xs ys → Tokens t xs → (left : Text) × Run up_turn tt t tt left × Tokens left ys × (length left < length t)
  up_runs {t = t} (UpTo.here is) all =
      let s = step opened all in
      (s.left, Run.last tt t tt s.left (rw (s.read, is) refl), s.others, s.less)
  up_runs {t = t} (UpTo.later isnt more) all =
      let s = step opened all in
      let m = up_runs {t = s.left} more s.others in
      (m.0, Run.more tt t tt s.left tt m.0 (rw (s.read, isnt) refl) s.less m.1, m.2, omega (arith, s.less, m.3))

  pub up_comes : {t : Text} {xs ys : List Token} → UpTo last xs ys → Tokens t xs → Comes t (all_turns Unexpected up_turn tt t) tt ys
  up_comes up all = let m = up_runs up all in record { left = m.0; gives = all_run Unexpected up_turn m.1; others = m.2; less = m.3 }

pub to_word_sound : (wanted : List ℕ) (opened t : Text) (y : Unit {0} × Text) {ys : List Token} → to_word wanted opened t ≡ Ok y → Tokens y.1 ys → (xs : List Token) × Tokens t xs × UpTo (says wanted) xs ys
unfolding to_word
to_word_sound wanted opened t y e rest = up_sound (says wanted) opened t y e rest

pub to_word_comes : {t : Text} {xs ys : List Token} (wanted : List ℕ) (opened : Text) → UpTo (says wanted) xs ys → Tokens t xs → Comes t (to_word wanted opened t) tt ys
unfolding to_word
to_word_comes wanted opened up all = up_comes (says wanted) opened up all

semicolon_sound : (opened t : Text) (y : Unit {0} × Text) {ys : List Token} → to_semicolon opened t ≡ Ok y → Tokens y.1 ys → (xs : List Token) × Tokens t xs × UpTo (is_sign 59) xs ys
unfolding to_semicolon
semicolon_sound opened t y e rest = up_sound (is_sign 59) opened t y e rest

semicolon_comes : {t : Text} {xs ys : List Token} (opened : Text) → UpTo (is_sign 59) xs ys → Tokens t xs → Comes t (to_semicolon opened t) tt ys
unfolding to_semicolon
semicolon_comes opened up all = up_comes (is_sign 59) opened up all

-- ---- types

pub type_text_sound : (opened t : Text) (y : Unit {0} × Text) {ys : List Token} → type_text opened t ≡ Ok y → Tokens y.1 ys → (xs : List Token) × Tokens t xs × TypeText xs ys
unfolding type_text
type_text_sound opened t y e rest =
    let b = bound {r = next opened t} e in
    let k = passed (is_sign 59 b.0.0.token) (to_semicolon opened b.0.1) Unexpected b.0.0.at y b.2 in
    let s = semicolon_sound opened b.0.1 y k.1 rest in
    (b.0.0.token ∷ s.0, next_sound opened t b.0 b.1 s.1, TypeText.some k.0 s.2)

pub type_text_comes : {t : Text} {xs ys : List Token} (opened : Text) → TypeText xs ys → Tokens t xs → Comes t (type_text opened t) tt ys
unfolding type_text
type_text_comes opened (TypeText.some isnt up) all =
    let s = step opened all in
    let m = semicolon_comes opened up s.others in
    record { left = m.left; gives = rw (s.read, isnt) m.gives; others = m.others; less = omega (arith, s.less, m.less) }

-- ---- texts in parentheses

-- what closes the innermost parenthesis and so many around it
data Closes : ℕ → List Token → List Token → Type 0 where
  inner : {xs u : List Token} → InParentheses xs u → Closes 0 xs u
  outer : {n : ℕ} {xs ys u : List Token} → InParentheses xs ys → Closes n ys u → Closes (suc n) xs u

pair_back : {n : ℕ} {xs u : List Token} → Closes (suc n) xs u → Closes n (Sign 40 ∷ xs) u
pair_back (Closes.outer a (Closes.inner b)) = Closes.inner (InParentheses.pair a b)
pair_back (Closes.outer a (Closes.outer b rest)) = Closes.outer (InParentheses.pair a b) rest

other_back : {n : ℕ} {x : Token} {xs u : List Token} → is_sign 40 x ≡ false → is_sign 41 x ≡ false → Closes n xs u → Closes n (x ∷ xs) u
other_back o k (Closes.inner a) = Closes.inner (InParentheses.other o k a)
other_back o k (Closes.outer a rest) = Closes.outer (InParentheses.other o k a) rest

module _ (opened : Text) where
  abbrev Closed : ℕ → Text → ℕ → Text → Type 0
  Closed n t m u = (ys : List Token) → Tokens u ys → (xs : List Token) × Tokens t xs × Closes n xs ys

  closed_last : (n : ℕ) (v : Text) (m : ℕ) (u : Text) → given (parenthesis_closed n) v ≡ turned false m u → n ≡ 0
  closed_last zero v m u e = refl
  closed_last (suc n) v m u e = absurd (never_last e)

  closed_more : (n : ℕ) (v : Text) (m : ℕ) (u : Text) → given (parenthesis_closed n) v ≡ turned true m u → n ≡ suc m
  closed_more zero v m u e = absurd (never_more e)
  closed_more (suc n) v m u e = ap (λ (k : ℕ). suc k) (state_of e)

  in_last : (n : ℕ) (t : Text) (m : ℕ) (u : Text) → parenthesis_turn opened n t ≡ Ok ((false, m), u) → Closed n t m u
  unfolding parenthesis_turn
  in_last n t m u e ys rest =
      let b = bound {r = next opened t} e in
      elim (tested (is_sign 40 b.0.0.token)) [
        | inl o ↦ let f = rw o at b.2 in absurd (never_last f)
        | inr o ↦ let f = rw o at b.2 in
            elim (tested (is_sign 41 b.0.0.token)) [
              | inl k ↦
                  let g = rw k at f in
                  let left : b.0.1 ≡ u = left_of g in
                  let all : Tokens t (Sign 41 ∷ ys) = subst (λ (x : Token). Tokens t (x ∷ ys)) (sign_is 41 b.0.0.token k) (next_sound opened t b.0 b.1 (subst (λ (v : Text). Tokens v ys) (sym left) rest)) in
                  (Sign 41 ∷ ys, all, subst (λ (i : ℕ). Closes i (Sign 41 ∷ ys) ys) (sym (closed_last n b.0.1 m u g)) (Closes.inner InParentheses.closed))
              | inr k ↦ let g = rw k at f in absurd (never_last g)
            ]
      ]

  in_more : (n : ℕ) (t : Text) (m : ℕ) (u : Text) (q : ℕ) (w : Text) → parenthesis_turn opened n t ≡ Ok ((true, m), u) → Closed m u q w → Closed n t q w
  unfolding parenthesis_turn
  in_more n t m u q w e more ys rest =
      let b = bound {r = next opened t} e in
      let c = more ys rest in
      elim (tested (is_sign 40 b.0.0.token)) [
        | inl o ↦
            let g = rw o at b.2 in
            let all : Tokens t (b.0.0.token ∷ c.0) = next_sound opened t b.0 b.1 (subst (λ (v : Text). Tokens v c.0) (sym (left_of g)) c.1) in
            let one : m ≡ suc n = sym (state_of g) ∙ omega arith in
            (Sign 40 ∷ c.0, subst (λ (x : Token). Tokens t (x ∷ c.0)) (sign_is 40 b.0.0.token o) all, pair_back (subst (λ (i : ℕ). Closes i c.0 ys) one c.2))
        | inr o ↦ let f = rw o at b.2 in
            elim (tested (is_sign 41 b.0.0.token)) [
              | inl k ↦
                  let g = rw k at f in
                  let all : Tokens t (b.0.0.token ∷ c.0) = next_sound opened t b.0 b.1 (subst (λ (v : Text). Tokens v c.0) (sym (left_of g)) c.1) in
                  let closes : Closes (suc m) (Sign 41 ∷ c.0) ys = Closes.outer InParentheses.closed c.2 in
                  (Sign 41 ∷ c.0, subst (λ (x : Token). Tokens t (x ∷ c.0)) (sign_is 41 b.0.0.token k) all, subst (λ (i : ℕ). Closes i (Sign 41 ∷ c.0) ys) (sym (closed_more n b.0.1 m u g)) closes)
              | inr k ↦
                  let g = rw k at f in
                  let all : Tokens t (b.0.0.token ∷ c.0) = next_sound opened t b.0 b.1 (subst (λ (v : Text). Tokens v c.0) (sym (left_of g)) c.1) in
                  (b.0.0.token ∷ c.0, all, other_back o k (subst (λ (i : ℕ). Closes i c.0 ys) (sym (state_of g)) c.2))
            ]
      ]

only_one : {xs u : List Token} → Closes 0 xs u → InParentheses xs u
only_one (Closes.inner a) = a

pub in_parentheses_sound : (opened t : Text) (y : Unit {0} × Text) {ys : List Token} → in_parentheses opened t ≡ Ok y → Tokens y.1 ys → (xs : List Token) × Tokens t xs × InParentheses xs ys
unfolding in_parentheses
in_parentheses_sound opened t y {ys = ys} e rest =
    let b = bound e in
    let left : b.0.1 ≡ y.1 = ap (λ (z : Unit {0} × Text). z.1) (same b.2) in
    let c = each_sound Unexpected (parenthesis_turn opened) (Closed opened) (in_last opened) (in_more opened) (turns t) 0 t b.0.0 b.0.1 b.1 ys (subst (λ (v : Text). Tokens v ys) (sym left) rest) in
    (c.0, c.1, only_one c.2)

module _ (opened : Text) where
  open_turn : {t : Text} {ys : List Token} (n : ℕ) (all : Tokens t (Sign 40 ∷ ys)) → parenthesis_turn opened n t ≡ Ok ((true, suc n), (step opened all).left)
  unfolding parenthesis_turn
  open_turn n all = let s = step opened all in let one : n + 1 ≡ suc n = omega arith in rw (s.read, sign_self 40) (ap (λ (k : ℕ). turned true k s.left) one)

  other_turn : {t : Text} {x : Token} {ys : List Token} (n : ℕ) → is_sign 40 x ≡ false → is_sign 41 x ≡ false → (all : Tokens t (x ∷ ys)) → parenthesis_turn opened n t ≡ Ok ((true, n), (step opened all).left)
  unfolding parenthesis_turn
  other_turn n o k all = let s = step opened all in rw (s.read, o, k) refl

  no_open : is_sign 40 (Sign 41) ≡ false
  unfolding is_sign
  no_open = refl

  close_turn : {t : Text} {ys : List Token} (n : ℕ) (all : Tokens t (Sign 41 ∷ ys)) → parenthesis_turn opened n t ≡ Ok (parenthesis_closed n, (step opened all).left)
  unfolding parenthesis_turn
  close_turn n all = let s = step opened all in rw (s.read, no_open, sign_self 41) refl

  -- within further parentheses
  in_inside : {t : Text} {xs ys : List Token} → InParentheses xs ys → Tokens t xs → (n : ℕ)
      → (left : Text) × Tokens left ys × (length left < length t) × ((q : ℕ) (w : Text) → Run (parenthesis_turn opened) n left q w → Run (parenthesis_turn opened) (suc n) t q w)
  in_inside {t = t} InParentheses.closed all n =
      let s = step opened all in
      (s.left, s.others, s.less, λ q w rest. Run.more (suc n) t n s.left q w (close_turn (suc n) all) s.less rest)
  in_inside {t = t} (InParentheses.pair a b) all n =
      let s = step opened all in
      let i = in_inside {t = s.left} a s.others (suc n) in
      let o = in_inside {t = i.0} b i.1 n in
      (o.0, o.1, omega (arith, s.less, i.2, o.2), λ q w rest. Run.more (suc n) t (suc (suc n)) s.left q w (open_turn (suc n) all) s.less (i.3 q w (o.3 q w rest)))
  in_inside {t = t} (InParentheses.other o k a) all n =
      let s = step opened all in
      let i = in_inside {t = s.left} a s.others n in
      (i.0, i.1, omega (arith, s.less, i.2), λ q w rest. Run.more (suc n) t (suc n) s.left q w (other_turn (suc n) o k all) s.less (i.3 q w rest))

  in_runs : {t : Text} {xs ys : List Token} → InParentheses xs ys → Tokens t xs → (left : Text) × Tokens left ys × (length left < length t) × Run (parenthesis_turn opened) 0 t 0 left
  in_runs {t = t} InParentheses.closed all =
      let s = step opened all in
      (s.left, s.others, s.less, Run.last 0 t 0 s.left (close_turn 0 all))
  in_runs {t = t} (InParentheses.pair a b) all =
      let s = step opened all in
      let i = in_inside a s.others 0 in
      let o = in_runs {t = i.0} b i.1 in
      (o.0, o.1, omega (arith, s.less, i.2, o.2), Run.more 0 t 1 s.left 0 o.0 (open_turn 0 all) s.less (i.3 0 o.0 o.3))
  in_runs {t = t} (InParentheses.other o k a) all =
      let s = step opened all in
      let i = in_runs {t = s.left} a s.others in
      (i.0, i.1, omega (arith, s.less, i.2), Run.more 0 t 0 s.left 0 i.0 (other_turn 0 o k all) s.less i.3)

pub in_parentheses_comes : {t : Text} {xs ys : List Token} (opened : Text) → InParentheses xs ys → Tokens t xs → Comes t (in_parentheses opened t) tt ys
unfolding in_parentheses
in_parentheses_comes opened is all =
    let r = in_runs opened is all in
    record { left = r.0; gives = rw (all_run Unexpected (parenthesis_turn opened) r.3) refl; others = r.1; less = r.2 }
