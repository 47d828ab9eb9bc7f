-- Setting and cutting branches of a node.
use Rattle.std.proofs.Common.{◌≡◌, ℕ, ◌<◌, Bool, true, false, not, cond, List, [], ◌∷◌, Option, Some, None, refl, ap, sym, subst, ◌∙◌, inl, inr}
use Rattle.std.specs.declared.cmp.Ordering.TheVariants.{Less, Equal, Greater}
use Rattle.std.specs.Cmp.{nat_cmp_total}
use Rattle.std.specs.Ordering.{nat_cmp, eq_by_cmp}
use Rattle.std.specs.FinMap.{find, put, nat_cmp-IsAntisymmetric}
use Rattle.std.specs.FinMap.Entries.{by_order, find-put, is_sorted-put, find-where_key, is_sorted-where_key}
use Rattle.tree_map.specs.Pairs.{IsAscending, AreBelow, AllBranches, Updates, cut}
use Rattle.tree_map.proofs.Joining.{tied, apart, same_or_not}

swapped : (d q : ℕ) → eq_by_cmp nat_cmp d q ≡ eq_by_cmp nat_cmp q d
swapped d q = elim (same_or_not d q) [
  | inl e ↦ tied d q e ∙ sym (tied q d (sym e))
  | inr n ↦ apart d q n ∙ sym (apart q d (λ e. n (sym e)))
]

module _ {V : Type 0} where
  pub updates_put : (d : ℕ) (v : V) (ps : List (ℕ × V)) → Updates d (Some v) ps (put nat_cmp d v ps)
  updates_put d v ps q = find-put nat_cmp nat_cmp_total q d v ps

  pub ascending_put : (d : ℕ) (v : V) (ps : List (ℕ × V)) → IsAscending ps → IsAscending (put nat_cmp d v ps)
  ascending_put d v ps h = is_sorted-put nat_cmp nat_cmp_total d v ps h

  pub below_put : (n d : ℕ) (v : V) (ps : List (ℕ × V)) → d < n → AreBelow n ps → AreBelow n (put nat_cmp d v ps)
  below_put n d v [] l h = (l, tt)
  below_put n d v (p ∷ ps) l h =
      elim (nat_cmp d p.0) as (λ r. AreBelow n (by_order r ((d, v) ∷ p ∷ ps) ((p.0, v) ∷ ps) (p ∷ put nat_cmp d v ps))) [
        | Less ↦ (l, h)
        | Equal ↦ h
        | Greater ↦ (h.0, below_put n d v ps l h.1)
      ]

  pub all_put : (P : V → Type 0) (d : ℕ) (v : V) (ps : List (ℕ × V)) → P v → AllBranches P ps → AllBranches P (put nat_cmp d v ps)
  all_put P d v [] l h = (l, tt)
  all_put P d v (p ∷ ps) l h =
      elim (nat_cmp d p.0) as (λ r. AllBranches P (by_order r ((d, v) ∷ p ∷ ps) ((p.0, v) ∷ ps) (p ∷ put nat_cmp d v ps))) [
        | Less ↦ (l, h)
        | Equal ↦ (l, h.1)
        | Greater ↦ (h.0, all_put P d v ps l h.1)
      ]

  turned : (b c : Bool) (o : Option V) → b ≡ c → cond (not b) o None ≡ cond c None o
  turned b c o e = subst (λ c. cond (not b) o None ≡ cond c None o) e (elim b as (λ b. cond (not b) o None ≡ cond b None o) [ true ↦ refl | false ↦ refl ])

  pub updates_cut : (d : ℕ) (ps : List (ℕ × V)) → Updates d None ps (cut d ps)
  updates_cut d ps q =
      find-where_key nat_cmp (λ k. not (eq_by_cmp nat_cmp d k)) q (λ x e. ap (λ k. not (eq_by_cmp nat_cmp d k)) (sym (nat_cmp-IsAntisymmetric q x e))) ps
      ∙ turned _ _ _ (swapped d q)

  pub ascending_cut : (d : ℕ) (ps : List (ℕ × V)) → IsAscending ps → IsAscending (cut d ps)
  ascending_cut d ps h = is_sorted-where_key nat_cmp (λ k. not (eq_by_cmp nat_cmp d k)) ps h

  pub below_cut : (n d : ℕ) (ps : List (ℕ × V)) → AreBelow n ps → AreBelow n (cut d ps)
  below_cut n d [] h = tt
  below_cut n d (p ∷ ps) h =
      elim (not (eq_by_cmp nat_cmp d p.0)) as (λ b. AreBelow n (cond b (p ∷ cut d ps) (cut d ps))) [
        | true ↦ (h.0, below_cut n d ps h.1)
        | false ↦ below_cut n d ps h.1
      ]

  pub all_cut : (P : V → Type 0) (d : ℕ) (ps : List (ℕ × V)) → AllBranches P ps → AllBranches P (cut d ps)
  all_cut P d [] h = tt
  all_cut P d (p ∷ ps) h =
      elim (not (eq_by_cmp nat_cmp d p.0)) as (λ b. AllBranches P (cond b (p ∷ cut d ps) (cut d ps))) [
        | true ↦ (h.0, all_cut P d ps h.1)
        | false ↦ all_cut P d ps h.1
      ]

  pub all_found : (P : V → Type 0) (d : ℕ) (ps : List (ℕ × V)) (v : V) → AllBranches P ps → find nat_cmp d ps ≡ Some v → P v
  all_found P d [] v h e = absurd (cc)
  all_found P d (p ∷ ps) v h e =
      let F : Bool → Type 0 = λ b. cond b (Some p.1) (find nat_cmp d ps) ≡ Some v → P v in
      let at : F (eq_by_cmp nat_cmp d p.0) = elim (eq_by_cmp nat_cmp d p.0) as F [
        | true ↦ λ k. (let same : p.1 ≡ v = cc in subst P same h.0)
        | false ↦ λ k. all_found P d ps v h.1 k
      ] in
      at e
