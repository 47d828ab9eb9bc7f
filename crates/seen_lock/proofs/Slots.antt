-- What the steps leave of the slot.
use Rattle.std.proofs.Common.{◌≡◌, ◌≢◌, ℕ, List, [], ◌∷◌, ◌++◌, set, true, false, sym, ap, ◌∙◌, subst, ⊎_elim, inl, inr, Option}
use mathlib.Core.Option.{Option as Home, none, some}
use mathlib.Core.Logic.{dite}
use native.Mathlib.Decide.{ℕ_discrete}
use lib.ListN.{get_elem?}
use Rattle.atomic_table.proofs.Lists.{at_set, at_snoc, at_longer, set_else}
use Rattle.seen_lock.specs.declared.known.Known.{Known}
use Rattle.seen_lock.specs.Order.{NoOne, NoOther, Holds, IsHome, IsOut, Slotted}
use Rattle.seen_lock.proofs.Sums.{same_at}
use Rattle.seen_lock.proofs.Tickets.{clash}

module _ {E : Type 0} where
  pub no_other-set : (views : List (Known E)) (id : ℕ) (w : Known E) → NoOne views → NoOther id (set views id w)
  no_other-set views id w nobody j u apart e = ⊎_elim
      (λ (here : (j ≡ id) × (w ≡ u)). absurd (apart here.0))
      (λ (else : (j ≢ id) × (get_elem? views j ≡ some u)). nobody j u else.1)
      (at_set views id j w u e)

  pub no_other-set_again : (views : List (Known E)) (id k : ℕ) (w : Known E) → NoOther id views → w.holds ≡ false
      → NoOther id (set views k w)
  no_other-set_again views id k w nobody free j u apart e = ⊎_elim
      (λ (here : (j ≡ k) × (w ≡ u)). ap (λ (x : Known E). x.holds) (sym here.1) ∙ free)
      (λ (else : (j ≢ k) × (get_elem? views j ≡ some u)). nobody j u apart else.1)
      (at_set views k j w u e)

  pub no_other-same : (views : List (Known E)) (id : ℕ) (w : Known E) → NoOther id views → NoOther id (set views id w)
  no_other-same views id w nobody j u apart e = ⊎_elim
      (λ (here : (j ≡ id) × (w ≡ u)). absurd (apart here.0))
      (λ (else : (j ≢ id) × (get_elem? views j ≡ some u)). nobody j u apart else.1)
      (at_set views id j w u e)

  pub no_one-set : (views : List (Known E)) (id : ℕ) (w : Known E) → NoOther id views → w.holds ≡ false → NoOne (set views id w)
  no_one-set views id w nobody free j u e = ⊎_elim
      (λ (here : (j ≡ id) × (w ≡ u)). ap (λ (x : Known E). x.holds) (sym here.1) ∙ free)
      (λ (else : (j ≢ id) × (get_elem? views j ≡ some u)). nobody j u else.0 else.1)
      (at_set views id j w u e)

  pub no_other : (views : List (Known E)) (id : ℕ) → NoOne views → NoOther id views
  no_other views id nobody j u apart e = nobody j u e

  pub no_one-push : (views : List (Known E)) (w : Known E) → NoOne views → w.holds ≡ false → NoOne (views ++ w ∷ [])
  no_one-push views w nobody free j u e = ⊎_elim
      (λ (was : get_elem? views j ≡ some u). nobody j u was)
      (λ (new : w ≡ u). ap (λ (x : Known E). x.holds) (sym new) ∙ free)
      (at_snoc views w u j e)

  pub no_other-push : (views : List (Known E)) (id : ℕ) (w : Known E) → NoOther id views → w.holds ≡ false
      → NoOther id (views ++ w ∷ [])
  no_other-push views id w nobody free j u apart e = ⊎_elim
      (λ (was : get_elem? views j ≡ some u). nobody j u apart was)
      (λ (new : w ≡ u). ap (λ (x : Known E). x.holds) (sym new) ∙ free)
      (at_snoc views w u j e)

module _ {S E : Type 0} (entries : S → List E) (fits : S → Type 0) (turn : ℕ) (log : List E)
    (homes : List (Home (Option S))) where
  pub slot_stays : (views : List (Known E)) (id : ℕ) (v w : Known E) → Slotted entries fits turn log homes views
      → get_elem? views id ≡ some v → v.holds ≡ false → w.holds ≡ false
      → Slotted entries fits turn log homes (set views id w)
  slot_stays views id v w slot at free still = ⊎_elim
      (λ (h : IsHome entries fits turn log homes views).
      inl record {
        state = h.state;
        is = h.is;
        history = h.history;
        fit = h.fit;
        free =
            no_one-set views id w (no_other views id h.free) still;
      })
      (λ (o : IsOut entries fits turn log homes views).
      let apart : o.id ≢ id = λ e. clash o.view.holds o.held.holds
      (ap (λ (k : Known E). k.holds) (same_at views id o.view v (ap (get_elem? views) (sym e) ∙ o.at) at) ∙ free) in
      inr record {
        is = o.is;
        id = o.id;
        view = o.view;
        at = set_else views id o.id w apart ∙ o.at;
        held = o.held;
        others =
            no_other-set_again views o.id id w o.others still;
      })
      slot

  pub slot_grows : (views : List (Known E)) (w : Known E) → Slotted entries fits turn log homes views → w.holds ≡ false
      → Slotted entries fits turn log homes (views ++ w ∷ [])
  slot_grows views w slot free = ⊎_elim
      (λ (h : IsHome entries fits turn log homes views).
      inl record { state = h.state; is = h.is; history = h.history; fit = h.fit; free = no_one-push views w h.free free })
      (λ (o : IsOut entries fits turn log homes views).
      inr record {
        is = o.is;
        id = o.id;
        view = o.view;
        at = at_longer views (w ∷ []) o.id o.view o.at;
        held = o.held;
        others = no_other-push views o.id w o.others free;
      })
      slot

  -- the seat that holds the slot
  pub holder : (views : List (Known E)) (id : ℕ) (v : Known E) → Slotted entries fits turn log homes views
      → get_elem? views id ≡ some v → v.holds ≡ true
      → (homes ≡ none ∷ []) × Holds turn log v × NoOther id views
  holder views id v slot at has = ⊎_elim
      (λ (h : IsHome entries fits turn log homes views). clash v.holds has (h.free id v at))
      (λ (o : IsOut entries fits turn log homes views).
      dite (ℕ_discrete id o.id)
      (λ e. (
        o.is,
        subst (Holds turn log) (same_at views id o.view v (ap (get_elem? views) e ∙ o.at) at) o.held,
        subst (λ j. NoOther j views) (sym e) o.others,
      ))
      (λ ne. clash v.holds has (o.others id v ne at)))
      slot
