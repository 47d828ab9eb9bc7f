-- Tokens: what is read is spelled so, and what is spelled so is read.
use Rattle.std.proofs.Common.{◌≡◌, ℕ, ◌-◌, ◌<◌, ◌≤◌, Bool, true, false, eqb, List, [], ◌∷◌, length, Ok, refl, sym, ap, ◌∙◌, subst, inl, inr, arith}
use Rattle.std.specs.Prelude.{nat_le}
use Rattle.std.proofs.lemmas.Bool.{eqb-true}
use Rattle.std.proofs.lemmas.Bool.Decides.{nat_tests}
use Rattle.reading.specs.Codes.{is_mark}
use Rattle.reading.specs.Reading.{Text, Refused, ◌>>=◌}
use Rattle.reading.specs.Runs.{IsRun, run}
use Rattle.reading.proofs.RunLaws.{run_is, run_only, run_shorter}
use Rattle.reading.proofs.Tools.{bound, kept, ok_is, tested}
use Rattle.reading_tests.specs.declared.tree.Cause.{Cause}
use Rattle.reading_tests.specs.declared.tree.Cause.TheVariants.{BadNumber}
use Rattle.reading_tests.specs.declared.token.Token.{Token}
use Rattle.reading_tests.specs.declared.token.Token.TheVariants as k
use Rattle.reading_tests.specs.Nest.{Lexed, is_digit, most, number_from, number, token_of, token_here, token, gap}
use Rattle.reading_tests.specs.Grammar.{IsToken, Next}
use Rattle.reading_tests.proofs.GapLaws.{gap_sound, gap_complete, gap_shorter}

-- a number that was read, of at most 999,999,999
number_is : (at : Text) (n : ℕ) (r : List ℕ × Text) (m : ℕ) (u : Text) → number at n r ≡ Ok (m, u) → (number_from n r.0 ≤ most) × (number_from n r.0 ≡ m) × (r.1 ≡ u)
unfolding number
number_is at n r m u e =
    let h = kept (nat_le (number_from n r.0) most) (Ok (number_from n r.0, r.1)) BadNumber at (m, u) e in
    let same = ok_is {E = Refused Cause} (number_from n r.0, r.1) (m, u) h.1 in
    let small : number_from n r.0 ≤ 999999999 = let is = h.0 in grind (arith, nat_tests) in
    (small, ap (λ (x : ℕ × Text). x.0) same, ap (λ (x : ℕ × Text). x.1) same)

-- a token is the one that is given
gives : (s : Text) (w : Token) (u : Text) (x : Token × Text) → IsToken s w u → (w, u) ≡ x → IsToken s x.0 x.1
gives s w u x is e = subst (λ (y : Token × Text). IsToken s y.0 y.1) e is

as_is : (c n : ℕ) (t : Text) (w : Token) (u : Text) → eqb c n ≡ true → IsToken (n ∷ t) w u → IsToken (c ∷ t) w u
as_is c n t w u e is = subst (λ (d : ℕ). IsToken (d ∷ t) w u) (sym (eqb-true c n e)) is

number_token : (c : ℕ) (t ds u : Text) (m : ℕ) (w : Text) (x : Token × Text) → is_digit c ≡ true → IsRun is_digit t ds u → number_from (c - 48) ds ≤ most
    → number_from (c - 48) ds ≡ m → u ≡ w → (k.Number m, w) ≡ x → IsToken (c ∷ t) x.0 x.1
number_token c t ds u m w x is r small same left e =
    let at_run : (k.Number (number_from (c - 48) ds), u) ≡ x = ap (λ (n : ℕ). (k.Number n, u)) same ∙ (ap (λ (v : Text). (k.Number m, v)) left ∙ e) in
    gives (c ∷ t) (k.Number (number_from (c - 48) ds)) u x (IsToken.number c t ds u is r small) at_run

number_sound : (c : ℕ) (t : Text) (x : Token × Text) → is_digit c ≡ true → (number (c ∷ t) (c - 48) (run is_digit t) >>= λ n. Ok (k.Number n.0, n.1)) ≡ Ok x → IsToken (c ∷ t) x.0 x.1
number_sound c t x is e =
    let b = bound {r = number (c ∷ t) (c - 48) (run is_digit t)} e in
    let n = number_is (c ∷ t) (c - 48) (run is_digit t) b.0.0 b.0.1 b.1 in
    number_token c t (run is_digit t).0 (run is_digit t).1 b.0.0 b.0.1 x is (run_is is_digit t) n.0 n.1 n.2 (ok_is {E = Refused Cause} (k.Number b.0.0, b.0.1) x b.2)

of_sound : (c : ℕ) (t : Text) (x : Token × Text) → token_of (c ∷ t) c t ≡ Ok x → IsToken (c ∷ t) x.0 x.1
unfolding token_of
of_sound c t x e =
    elim (tested (is_mark c)) [
      | inl holds ↦ let f = rw holds at e in absurd cc
      | inr fails ↦ let e1 = rw fails at e in
          elim (tested (eqb c 40)) [
            | inl holds ↦ let f = rw holds at e1 in gives (c ∷ t) k.Open t x (as_is c 40 t k.Open t holds (IsToken.open_ t)) (ok_is {E = Refused Cause} (k.Open, t) x f)
            | inr fails ↦ let e2 = rw fails at e1 in
                elim (tested (eqb c 41)) [
                  | inl holds ↦ let f = rw holds at e2 in gives (c ∷ t) k.Close t x (as_is c 41 t k.Close t holds (IsToken.close t)) (ok_is {E = Refused Cause} (k.Close, t) x f)
                  | inr fails ↦ let e3 = rw fails at e2 in
                      elim (tested (eqb c 44)) [
                        | inl holds ↦ let f = rw holds at e3 in gives (c ∷ t) k.Comma t x (as_is c 44 t k.Comma t holds (IsToken.comma t)) (ok_is {E = Refused Cause} (k.Comma, t) x f)
                        | inr fails ↦ let e4 = rw fails at e3 in
                            elim (tested (is_digit c)) [
                              | inl holds ↦
                                  let f = rw holds at e4 in number_sound c t x holds f
                              | inr fails ↦ let f = rw fails at e4 in absurd cc
                            ]
                      ]
                ]
          ]
    ]

here_sound : (t : Text) (x : Token × Text) → token_here t ≡ Ok x → IsToken t x.0 x.1
unfolding token_here
here_sound [] x e = gives [] k.End [] x IsToken.end (ok_is {E = Refused Cause} (k.End, []) x e)
here_sound (c ∷ t) x e = of_sound c t x e

digit_no_mark : (c : ℕ) → is_digit c ≡ true → is_mark c ≡ false
digit_no_mark c is = grind (arith, nat_tests)

digit_other : (c n : ℕ) → is_digit c ≡ true → n < 48 → eqb c n ≡ false
digit_other c n is low = grind (arith, nat_tests)

here_complete : {t : Text} {w : Token} {u : Text} → IsToken t w u → token_here t ≡ Ok (w, u)
unfolding token_here token_of number
here_complete IsToken.end = refl
here_complete (IsToken.open_ t) = refl
here_complete (IsToken.close t) = refl
here_complete (IsToken.comma t) = refl
here_complete (IsToken.number c t ds u is r small) =
    let few : nat_le (number_from (c - 48) ds) most ≡ true = grind (arith, nat_tests) in
    rw (digit_no_mark c is, digit_other c 40 is (omega arith), digit_other c 41 is (omega arith), digit_other c 44 is (omega arith), is, run_only r, few) refl

here_shorter : {t : Text} {w : Token} {u : Text} → IsToken t w u → length u ≤ length t
here_shorter IsToken.end = omega arith
here_shorter (IsToken.open_ t) = omega arith
here_shorter (IsToken.close t) = omega arith
here_shorter (IsToken.comma t) = omega arith
here_shorter (IsToken.number c t ds u is r small) = omega (arith, run_shorter r)

comma_shorter : {t : Text} {u : Text} → IsToken t k.Comma u → length u < length t
comma_shorter (IsToken.comma t) = omega arith

-- ---- the next token

pub token_sound : (t : Text) (x : Lexed) (u : Text) → token t ≡ Ok (x, u) → Next t x.token u
unfolding token
token_sound t x u e =
    let g = bound {r = gap t} e in
    let b = bound {r = token_here g.0.1} g.2 in
    let same = ok_is {E = Refused Cause} (record { token = b.0.0; at = g.0.1 }, b.0.1) (x, u) b.2 in
    subst (λ (y : Lexed × Text). Next t y.0.token y.1) same (Next.next t g.0.1 b.0.0 b.0.1 (gap_sound t g.0.1 g.1) (here_sound g.0.1 b.0 b.1))

pub token_complete : {t : Text} {w : Token} {u : Text} → Next t w u → (at : Text) × (token t ≡ Ok (record { token = w; at = at }, u))
unfolding token
token_complete (Next.next t s w u passed is) = (s, rw (gap_complete passed, here_complete is) refl)

pub Next-shorter : {t : Text} {w : Token} {u : Text} → Next t w u → length u ≤ length t
Next-shorter (Next.next t s w u passed is) = omega (arith, gap_shorter passed, here_shorter is)

pub Comma-shorter : {t u : Text} → Next t k.Comma u → length u < length t
Comma-shorter (Next.next t s _ u passed is) = omega (arith, gap_shorter passed, comma_shorter is)
