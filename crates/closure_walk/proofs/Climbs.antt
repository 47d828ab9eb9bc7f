-- Ancestors are what chains of steps up reach.
use Rattle.std.proofs.Common.{◌≡◌, ℕ, zero, suc, ◌≤◌, List, refl, sym, subst, arith}
use Rattle.audit_model.specs.Closures.{most_hops, most_after}
use Rattle.audit_model.specs.Paths.{above}
use Rattle.closure_walk.specs.Walking.{In}
use Rattle.closure_walk.specs.Laws.{Chain, IsReachable, IsAbove, AncestorsAreChains}
use Rattle.closure_walk.proofs.Chains.{closure_is_chains}

one_more : most_hops ≡ suc most_after
unfolding most_hops most_after
one_more = refl

module _ (f : ℕ → List ℕ) where
  -- a first step, and a chain from there
  prepend : (n x a y : ℕ) → In a (f x) → Chain f n a y → Chain f (suc n) x y
  prepend zero x a y i c = (x, refl, subst (λ z. In z (f x)) c i)
  prepend (suc n) x a y i c = (c.0, prepend n x a c.0 i c.1, c.2)

  record Begins (n x y : ℕ) : Type 0 where
    at : ℕ
    leads : In at (f x)
    rest : Chain f n at y

  begin : (n x y : ℕ) → Chain f (suc n) x y → Begins n x y
  begin zero x y c = record { at = y; leads = subst (λ z. In y (f z)) (sym c.1) c.2; rest = refl }
  begin (suc n) x y c = let b = begin n x c.0 c.1 in record { at = b.at; leads = b.leads; rest = (c.0, b.rest, c.2) }

  above_from : (e y : ℕ) → IsReachable f (f e) most_after y → IsAbove f e y
  above_from e y r = record { hops = suc r.hops; some = omega arith; few = subst (λ m. suc r.hops ≤ m) (sym one_more) (omega (arith, r.few)); chain = prepend r.hops e r.from y r.is_start r.chain }

  reached_at : (e y n : ℕ) → suc n ≤ most_hops → Chain f (suc n) e y → IsReachable f (f e) most_after y
  reached_at e y n l c =
      let b = begin n e y c in
      let few : suc n ≤ suc most_after = subst (λ m. suc n ≤ m) one_more l in
      record { from = b.at; hops = n; is_start = b.leads; few = omega (arith, few); chain = b.rest }

  reached_from : (e y n : ℕ) → 1 ≤ n → n ≤ most_hops → Chain f n e y → IsReachable f (f e) most_after y
  reached_from e y zero o l c = absurd (omega (arith, o))
  reached_from e y (suc n) o l c = reached_at e y n l c

pub ancestors_are_chains : AncestorsAreChains
ancestors_are_chains s roles v e y =
    let f : ℕ → List ℕ = λ x. (above s roles x).answer v in
    let same = closure_is_chains most_after (above s roles) v (f e) y in (
      λ i. above_from f e y (same.0 i),
      λ r. same.1 (reached_from f e y r.hops r.some r.few r.chain),
    )
