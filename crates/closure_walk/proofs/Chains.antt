-- A closure is what chains reach.
use Rattle.std.proofs.Common.{◌≡◌, ℕ, zero, suc, ◌≤◌, List, [], refl, sym, subst, inl, inr, arith}
use Rattle.std.specs.List.{flat_map}
use Rattle.std.proofs.lemmas.Bool.{cases_lt}
use Rattle.audit_model.specs.Keys.{Sight}
use Rattle.audit_model.specs.Reading.{Reading}
use Rattle.audit_model.specs.Closures.{reached}
use Rattle.closure_walk.specs.Walking.{In}
use Rattle.closure_walk.specs.Laws.{Chain, IsReachable, ClosureIsChains}
use Rattle.closure_walk.proofs.Members.{in_flat, flat_in, in_union, union_first, union_last}
use Rattle.closure_walk.proofs.Walks.{ends_more, ends_first}

module _ (step : ℕ → Reading (List ℕ)) (v : Sight) (starts : List ℕ) where
  chained : (n y : ℕ) → In y ((reached step n starts).answer v) → IsReachable (λ x. (step x).answer v) starts n y
  chained zero y h =
      elim (in_union y [] starts (subst (λ xs. In y xs) (ends_first step v starts) h)) [
        | inl a ↦ absurd a
        | inr b ↦ record { from = y; hops = zero; is_start = b; few = omega arith; chain = refl }
      ]
  chained (suc n) y h =
      elim (in_union y ((reached step n starts).answer v) (flat_map (λ x. (step x).answer v) ((reached step n starts).answer v)) (subst (λ xs. In y xs) (ends_more step v starts n) h)) [
        | inl a ↦ let r = chained n y a in record { from = r.from; hops = r.hops; is_start = r.is_start; few = omega (arith, r.few); chain = r.chain }
        | inr b ↦
            let p = in_flat (λ x. (step x).answer v) ((reached step n starts).answer v) y b in
            let r = chained n p.at p.is_in in
            record { from = r.from; hops = suc r.hops; is_start = r.is_start; few = omega (arith, r.few); chain = (p.at, r.chain, p.gives) }
      ]

  more_hops : (n d y : ℕ) → n ≤ d → In y ((reached step n starts).answer v) → In y ((reached step d starts).answer v)
  more_hops n zero y l h = let e : n ≡ zero = omega arith in subst (λ k. In y ((reached step k starts).answer v)) e h
  more_hops n (suc d) y l h = elim (cases_lt d n) [
    | inl lt ↦ let e : n ≡ suc d = omega arith in subst (λ k. In y ((reached step k starts).answer v)) e h
    | inr le ↦ subst (λ xs. In y xs) (sym (ends_more step v starts d)) (union_first y ((reached step d starts).answer v) (flat_map (λ x. (step x).answer v) ((reached step d starts).answer v)) (more_hops n d y le h))
  ]

  chain_in : (n x y : ℕ) → In x starts → Chain (λ z. (step z).answer v) n x y → In y ((reached step n starts).answer v)
  chain_in zero x y h c = subst (λ xs. In y xs) (sym (ends_first step v starts)) (union_last y [] starts (subst (λ z. In z starts) c h))
  chain_in (suc n) x y h c = subst (λ xs. In y xs) (sym (ends_more step v starts n)) (union_last y ((reached step n starts).answer v) (flat_map (λ z. (step z).answer v) ((reached step n starts).answer v)) (flat_in (λ z. (step z).answer v) ((reached step n starts).answer v) c.0 y (chain_in n x c.0 h c.1) c.2))

pub closure_is_chains : ClosureIsChains
closure_is_chains n step v starts y = (
  λ h. chained step v starts n y h,
  λ r. more_hops step v starts r.hops n y r.few (chain_in step v starts r.hops r.from y r.is_start r.chain),
)
