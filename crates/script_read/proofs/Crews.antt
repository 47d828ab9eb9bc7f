-- What each of the editors has, as a list in the order of the editors.
use Rattle.std.proofs.Common.{◌≡◌, ℕ, zero, suc, ◌+◌, ◌-◌, ◌≤◌, ◌<◌, Bool, true, false, cond, List, [], ◌∷◌, map, get_or, refl, sym, ap, ◌∙◌, subst, arith, inl, inr}
use Rattle.std.specs.Prelude.{nat_le, ◌==◌, ◌&&◌}
use Rattle.std.proofs.Math.ListN.{set}
use Rattle.std.proofs.lemmas.Bool.Decides.{nat_tests}
use Rattle.std.proofs.lemmas.Bool.{eqb-true}
use Rattle.reading.proofs.Tools.{tested}
use Rattle.script_read.specs.Said.{is_editor}
use Rattle.script_read.specs.Standing.{editors}

-- n numbers from s on
abbrev pub from : ℕ → ℕ → List ℕ
from s zero = []
from s (suc n) = s ∷ from (suc s) n

pub map_same : {A : Type 0} (f g : ℕ → A) (ks : List ℕ) → ((k : ℕ) → f k ≡ g k) → map f ks ≡ map g ks
map_same f g [] same = refl
map_same f g (k ∷ ks) same = let first = same k in let rest = map_same f g ks same in rw (first, rest) refl

module _ {A : Type 0} (f : ℕ → A) where
  get_from : (j s n : ℕ) (d : A) → j < n → get_or (map f (from s n)) j d ≡ f (s + j)
  get_from j s zero d lt = absurd (omega arith)
  get_from zero s (suc n) d lt = let same : s + 0 ≡ s = omega arith in ap f (sym same)
  get_from (suc j) s (suc n) d lt = let same : suc s + j ≡ s + suc j = omega arith in get_from j (suc s) n d (omega (arith, lt)) ∙ ap f same

  abbrev put : ℕ → A → ℕ → A
  put e x k = cond (k == e) x (f k)

  beyond : (x : A) (e s n : ℕ) → e < s → map f (from s n) ≡ map (put e x) (from s n)
  beyond x e s zero lt = refl
  beyond x e s (suc n) lt =
      let other : (s == e) ≡ false = grind (arith, nat_tests) in
      let rest = beyond x e (suc s) n (omega (arith, lt)) in
      rw (other, rest) refl

  set_from : (j s n : ℕ) (x : A) → j < n → set (map f (from s n)) j x ≡ map (put (s + j) x) (from s n)
  set_from j s zero x lt = absurd (omega arith)
  set_from zero s (suc n) x lt =
      let here : (s == s + 0) ≡ true = grind (arith, nat_tests) in
      let rest = beyond x (s + 0) (suc s) n (omega arith) in
      rw (here, ← rest) refl
  set_from (suc j) s (suc n) x lt =
      let same : suc s + j ≡ s + suc j = omega arith in
      let other : (s == s + suc j) ≡ false = grind (arith, nat_tests) in
      let rest = set_from j (suc s) n x (omega (arith, lt)) ∙ ap (λ (e : ℕ). map (put e x) (from (suc s) n)) same in
      rw (other, rest) refl

low : (e : ℕ) → is_editor e ≡ true → 1 ≤ e
low e is = grind (arith, nat_tests)

high : (e : ℕ) → is_editor e ≡ true → e ≤ 16
high e is = grind (arith, nat_tests)

-- what the editor has
pub at_editor : {A : Type 0} (f : ℕ → A) (e : ℕ) (d : A) → is_editor e ≡ true → get_or (map f editors) (e - 1) d ≡ f e
at_editor f e d is =
    let same : 1 + (e - 1) ≡ e = omega (arith, low e is) in
    get_from f (e - 1) 1 16 d (omega (arith, low e is, high e is)) ∙ ap f same

-- what all have where one has something else
pub with_editor : {A : Type 0} (f : ℕ → A) (e : ℕ) (x : A) → is_editor e ≡ true → set (map f editors) (e - 1) x ≡ map (λ k. cond (k == e) x (f k)) editors
with_editor f e x is =
    let same : 1 + (e - 1) ≡ e = omega (arith, low e is) in
    set_from f (e - 1) 1 16 x (omega (arith, low e is, high e is)) ∙ ap (λ (n : ℕ). map (λ k. cond (k == n) x (f k)) editors) same
