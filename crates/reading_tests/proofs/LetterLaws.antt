-- Letters: what is read is spelled so, and what is spelled so is read.
use Rattle.std.proofs.Common.{◌≡◌, ℕ, ◌+◌, ◌<◌, Bool, true, false, eqb, List, [], ◌∷◌, length, Result, Ok, Err, refl, sym, ap, ◌∙◌, subst, inl, inr, arith}
use Rattle.std.specs.Prelude.{not, IfOk}
use Rattle.std.proofs.lemmas.Bool.{eqb-true}
use Rattle.ifc_base.specs.declared.memory.Refusal.{Refusal}
use Rattle.reading.specs.declared.fault.Fault.{Fault}
use Rattle.reading.specs.Codes.{codes_of}
use Rattle.reading.specs.Lines.{with_line, Answers}
use Rattle.reading.specs.Reading.{Text, Refused, ◌>>=◌, turns}
use Rattle.reading.proofs.Lines.{with_line_ok}
use Rattle.reading.proofs.Tools.{bound, ok_is, tested, each_sound, Run, all_run}
use Rattle.reading_tests.specs.declared.tree.Cause.{Cause}
use Rattle.reading_tests.specs.declared.tree.Cause.TheVariants.{BadToken}
use Rattle.reading_tests.specs.Letters.{Letters, Spells, Reads, turn, letters, whole, whole_from}

abbrev Turned : Type 0
Turned = (Bool × Bool) × Text

-- whether as many letters more as b says make an odd number of them
abbrev with_more : Bool → Bool → Bool
with_more a true = not a
with_more a false = a

with_one : (a b : Bool) → with_more (not a) b ≡ with_more a (not b)
with_one true true = refl
with_one true false = refl
with_one false true = refl
with_one false false = refl

from_none : (b : Bool) → with_more false b ≡ b
from_none true = refl
from_none false = refl

-- the letters that the loop passes
abbrev Adds : Bool → Text → Bool → Text → Type 0
Adds s t r u = (odd : Bool) × Letters t odd u × (r ≡ with_more s odd)

module _ (opened : Text) where
  turn_last : (s : Bool) (t : Text) (r : Bool) (u : Text) → turn opened s t ≡ Ok ((false, r), u) → Adds s t r u
  unfolding turn
  turn_last s [] r u e = absurd cc
  turn_last s (c ∷ t) r u e =
      elim (tested (eqb c 41)) [
        | inl holds ↦
            let same = ok_is {E = Refused Cause} ((false, s), t) ((false, r), u) (rw holds at e) in
            let at_end : Letters (c ∷ t) false u = rw (eqb-true c 41 holds, ← ap (λ (x : Turned). x.1) same) (Letters.ends t) in
            (false, at_end, sym (ap (λ (x : Turned). x.0.1) same))
        | inr fails ↦ let f = rw fails at e in
            elim (tested (eqb c 97)) [
              | inl holds ↦ let g = rw holds at f in let wrong : true ≡ false = ap (λ (x : Turned). x.0.0) (ok_is {E = Refused Cause} ((true, not s), t) ((false, r), u) g) in absurd cc
              | inr fails2 ↦ let g = rw fails2 at f in absurd cc
            ]
      ]

  turn_more : (s : Bool) (t : Text) (r : Bool) (u : Text) (q : Bool) (w : Text) → turn opened s t ≡ Ok ((true, r), u) → Adds r u q w → Adds s t q w
  unfolding turn
  turn_more s [] r u q w e rest = absurd cc
  turn_more s (c ∷ t) r u q w e rest =
      elim (tested (eqb c 41)) [
        | inl holds ↦ let f = rw holds at e in let wrong : false ≡ true = ap (λ (x : Turned). x.0.0) (ok_is {E = Refused Cause} ((false, s), t) ((true, r), u) f) in absurd cc
        | inr fails ↦ let f = rw fails at e in
            elim (tested (eqb c 97)) [
              | inl holds ↦
                  let same = ok_is {E = Refused Cause} ((true, not s), t) ((true, r), u) (rw holds at f) in
                  let behind : Letters t rest.0 w = subst (λ (v : Text). Letters v rest.0 w) (sym (ap (λ (x : Turned). x.1) same)) rest.1 in
                  let all : Letters (c ∷ t) (not rest.0) w = rw (eqb-true c 97 holds) (Letters.more t rest.0 w behind) in
                  (not rest.0, all, rest.2 ∙ ap (λ (b : Bool). with_more b rest.0) (sym (ap (λ (x : Turned). x.0.1) same)) ∙ with_one s rest.0)
              | inr fails2 ↦ let g = rw fails2 at f in absurd cc
            ]
      ]

  letters_sound : (t : Text) (q : Bool) (w : Text) → letters opened t ≡ Ok (q, w) → Letters t q w
  unfolding letters
  letters_sound t q w e =
      let a = each_sound BadToken (turn opened) Adds turn_last turn_more (turns t) false t q w e in
      subst (λ (b : Bool). Letters t b w) (sym (a.2 ∙ from_none a.0)) a.1

  letters_run : {t : Text} {odd : Bool} {u : Text} (s : Bool) → Letters t odd u → Run (turn opened) s t (with_more s odd) u
  unfolding turn
  letters_run s (Letters.ends t) = Run.last s (41 ∷ t) s t refl
  letters_run s (Letters.more t odd u others) = subst (λ (b : Bool). Run (turn opened) s (97 ∷ t) b u) (with_one s odd) (Run.more s (97 ∷ t) (not s) t (with_more (not s) odd) u refl (omega arith) (letters_run (not s) others))

  letters_complete : {t : Text} {odd : Bool} {u : Text} → Letters t odd u → letters opened t ≡ Ok (odd, u)
  unfolding letters
  letters_complete {odd = odd} {u = u} h = all_run BadToken (turn opened) (letters_run false h) ∙ ap (λ (b : Bool). Ok (b, u)) (from_none odd)

opens : (c : ℕ) (t : Text) (odd : Bool) (u : Text) → eqb c 40 ≡ true → Letters t odd u → Spells (c ∷ t) odd u
opens c t odd u is inside = rw (eqb-true c 40 is) (Spells.list t odd u inside)

whole_sound : (t : Text) (odd : Bool) → whole t ≡ Ok odd → (rest : Text) × Spells t odd rest
unfolding whole
whole_sound [] odd e = absurd cc
whole_sound (c ∷ t) odd e =
    elim (tested (eqb c 40)) [
      | inl holds ↦
          let b = bound {r = letters (c ∷ t) t} (rw holds at e) in
          let same = ok_is {E = Refused Cause} b.0.0 odd b.2 in
          let inside = letters_sound (c ∷ t) t b.0.0 b.0.1 b.1 in
          (b.0.1, subst (λ (x : Bool). Spells (c ∷ t) x b.0.1) same (opens c t b.0.0 b.0.1 holds inside))
      | inr fails ↦ let f = rw fails at e in absurd cc
    ]

whole_complete : {t : Text} {odd : Bool} {u : Text} → Spells t odd u → whole t ≡ Ok odd
unfolding whole
whole_complete (Spells.list t odd u inside) = rw (letters_complete (40 ∷ t) inside) refl

pub letters_reads : (bytes : List ℕ) (odd : Bool) → Reads bytes odd → with_line (codes_of bytes) (whole (codes_of bytes)) ≡ Ok odd
letters_reads bytes odd r = ap (with_line (codes_of bytes)) (whole_complete r.list)

-- for the contract
pub letters_found : (bytes : List ℕ) (r : Result Bool (Refusal (Fault Cause))) → Answers (λ x. x) r (with_line (codes_of bytes) (whole (codes_of bytes))) → IfOk r (λ odd. Reads bytes odd)
letters_found bytes (Ok odd) given = let w = whole_sound (codes_of bytes) odd (with_line_ok (codes_of bytes) (whole (codes_of bytes)) odd given) in record { rest = w.0; list = w.1 }
letters_found bytes (Err e) given = tt
