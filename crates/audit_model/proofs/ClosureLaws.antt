-- A closure that a step doesn't widen stays as it is, whatever number of steps is allowed.
use Rattle.std.proofs.Common.{◌≡◌, ℕ, zero, suc, ◌≤◌, List, inl, inr, arith, ap, subst, ◌∙◌, flat_map}
use Rattle.std.proofs.lemmas.Bool.{cases_lt}
use Rattle.audit_model.specs.Keys.{Sight}
use Rattle.audit_model.specs.Ascending.{union}
use Rattle.audit_model.specs.Reading.{Reading}
use Rattle.audit_model.specs.Closures.{reached}

-- from these ids a step leads to nothing else
abbrev pub IsClosed : (ℕ → Reading (List ℕ)) → Sight → List ℕ → Type 0
IsClosed step v xs = union xs (flat_map (λ x. (step x).answer v) xs) ≡ xs

pub stays_closed : (step : ℕ → Reading (List ℕ)) (v : Sight) (starts : List ℕ) (n : ℕ) (xs : List ℕ) → (reached step n starts).answer v ≡ xs → IsClosed step v xs → (m : ℕ) → n ≤ m → (reached step m starts).answer v ≡ xs
unfolding reached
stays_closed step v starts n xs is closed zero le = let none : n ≡ zero = omega (arith, le) in subst (λ (k : ℕ). (reached step k starts).answer v ≡ xs) none is
stays_closed step v starts n xs is closed (suc m) le =
    elim (cases_lt m n) [
      | inl lt ↦ let same : n ≡ suc m = omega (arith, le, lt) in subst (λ (k : ℕ). (reached step k starts).answer v ≡ xs) same is
      | inr early ↦ ap (λ (ys : List ℕ). union ys (flat_map (λ x. (step x).answer v) ys)) (stays_closed step v starts n xs is closed m early) ∙ closed
    ]
