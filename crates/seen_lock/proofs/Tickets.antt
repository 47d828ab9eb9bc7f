-- What drawing, looking and passing leave of the numbers.
use Rattle.std.proofs.Common.{◌≡◌, ◌≢◌, ℕ, ◌+◌, ◌%◌, ◌<◌, ◌≤◌, List, [], ◌∷◌, ◌++◌, length, set, cond, Bool, true, false}
use Rattle.std.proofs.Common.{true≢false, eqb, eq-eqb, ne_eqb, sym, ap, ◌∙◌, ⊎_elim, arith}
use mathlib.Core.Logic.{dite}
use mathlib.Core.Option.{some}
use native.Mathlib.Decide.{ℕ_discrete}
use lib.ListN.{get_elem?}
use Rattle.atomic_table.proofs.Lists.{at_set, at_snoc, at_longer, set_here, set_else, one_turn}
use Rattle.seen_lock.specs.declared.known.Known.{Known}
use Rattle.seen_lock.specs.Order.{modulus, total, waiting, Tickets}
use Rattle.seen_lock.proofs.Sums.{in_range, same_at, total-set, total-append, total_le}

picked : ℕ → ℕ → (ℕ → ℕ) → ℕ → ℕ
picked ticket id who x = cond (eqb x ticket) id (who x)

picked_here : (ticket id : ℕ) (who : ℕ → ℕ) (x : ℕ) → x ≡ ticket → picked ticket id who x ≡ id
unfolding picked
picked_here ticket id who x e = ap (λ b. cond b id (who x)) (eq-eqb x ticket e)

picked_else : (ticket id : ℕ) (who : ℕ → ℕ) (x : ℕ) → x ≢ ticket → picked ticket id who x ≡ who x
unfolding picked
picked_else ticket id who x n = ap (λ b. cond b id (who x)) (ne_eqb x ticket n)

pub clash : {X : Type 0} (b : Bool) → b ≡ true → b ≡ false → X
clash b t f = absurd (true≢false (sym t ∙ f))

module _ {E : Type 0} where
  pub waiting-true : (v : Known E) → v.waits ≡ true → waiting v ≡ 1
  waiting-true v h = ap (λ b. cond b 1 0) h

  pub waiting-false : (v : Known E) → v.waits ≡ false → waiting v ≡ 0
  waiting-false v h = ap (λ b. cond b 1 0) h

  pub waiting_le : (v : Known E) → waiting v ≤ 1
  waiting_le v = at v.waits
    where
      at : (b : Bool) → cond b 1 0 ≤ 1
      at true = omega arith
      at false = omega arith

  pub draws : (turn ticket : ℕ) (views : List (Known E)) (id : ℕ) (v w : Known E) → Tickets turn ticket views
      → get_elem? views id ≡ some v → v.waits ≡ false
      → w.waits ≡ true → w.ticket ≡ ticket → Tickets turn (ticket + 1) (set views id w)
  draws turn ticket views id v w t at free has is = record {
    who = picked ticket id t.who;
    count = (let s = total-set waiting views id v w at in let a = waiting-false v free in let b = waiting-true w has in
        let c = t.count in omega arith);
    held = λ j u e h. ⊎_elim
        (λ (here : (j ≡ id) × (w ≡ u)).
        let same : u.ticket ≡ ticket = ap (λ (k : Known E). k.ticket) (sym here.1) ∙ is in
        let c = t.count in
        (omega arith, omega arith, picked_here ticket id t.who u.ticket same ∙ sym here.0))
        (λ (else : (j ≢ id) × (get_elem? views j ≡ some u)).
        let o = t.held j u else.1 h in
        let lo = o.0 in let hi = o.1 in
        (lo, omega arith, picked_else ticket id t.who u.ticket (omega arith) ∙ o.2))
        (at_set views id j w u e);
    each = λ x lo hi. dite (ℕ_discrete x ticket)
        (λ here. (
          w,
          ap (get_elem? (set views id w)) (picked_here ticket id t.who x here)
              ∙ set_here views id w (in_range views id v at),
          has,
          is ∙ sym here,
        ))
        (λ ne.
        let o = t.each x lo (omega arith) in
        let apart : t.who x ≢ id = λ e. clash o.0.waits o.2
        (ap (λ (k : Known E). k.waits) (same_at views id o.0 v (ap (get_elem? views) (sym e) ∙ o.1) at) ∙ free) in (
          o.0,
          ap (get_elem? (set views id w)) (picked_else ticket id t.who x ne)
              ∙ (set_else views id (t.who x) w apart ∙ o.1),
          o.2,
          o.3,
        ));
  }

  pub passes : (turn ticket : ℕ) (views : List (Known E)) (id : ℕ) (v w : Known E) → Tickets turn ticket views
      → get_elem? views id ≡ some v → v.waits ≡ true → v.ticket ≡ turn
      → w.waits ≡ false → Tickets (turn + 1) ticket (set views id w)
  passes turn ticket views id v w t at has is free = record {
    who = t.who;
    count = (let s = total-set waiting views id v w at in let a = waiting-true v has in let b = waiting-false w free in
        let c = t.count in omega arith);
    held = λ j u e h. ⊎_elim
        (λ (here : (j ≡ id) × (w ≡ u)). clash u.waits h (ap (λ (k : Known E). k.waits) (sym here.1) ∙ free))
        (λ (else : (j ≢ id) × (get_elem? views j ≡ some u)).
        let o = t.held j u else.1 h in
        let p = t.held id v at has in
        let lo = o.0 in
        let apart : u.ticket ≢ turn = λ e. else.0 (sym o.2 ∙ ap t.who (e ∙ sym is) ∙ p.2) in
        (omega arith, o.1, o.2))
        (at_set views id j w u e);
    each = λ x lo hi.
        let o = t.each x (omega arith) hi in
        let apart : t.who x ≢ id = λ e. let same : o.0.ticket ≡ v.ticket =
        ap (λ (k : Known E). k.ticket) (same_at views id o.0 v (ap (get_elem? views) (sym e) ∙ o.1) at) in let p = o.3 in
        absurd (omega arith) in
        (o.0, set_else views id (t.who x) w apart ∙ o.1, o.2, o.3);
  }

  -- a view that changes elsewhere
  pub stays : (turn ticket : ℕ) (views : List (Known E)) (id : ℕ) (v w : Known E) → Tickets turn ticket views
      → get_elem? views id ≡ some v → w.waits ≡ v.waits → w.ticket ≡ v.ticket
      → Tickets turn ticket (set views id w)
  stays turn ticket views id v w t at same is = record {
    who = t.who;
    count = (let s = total-set waiting views id v w at in let a : waiting w ≡ waiting v = ap (λ b. cond b 1 0) same in
        let c = t.count in omega arith);
    held = λ j u e h. ⊎_elim
        (λ (here : (j ≡ id) × (w ≡ u)).
        let x : u.ticket ≡ v.ticket = ap (λ (k : Known E). k.ticket) (sym here.1) ∙ is in
        let y : u.waits ≡ v.waits = ap (λ (k : Known E). k.waits) (sym here.1) ∙ same in
        let o = t.held id v at (sym y ∙ h) in
        let lo = o.0 in let hi = o.1 in
        (omega arith, omega arith, ap t.who x ∙ (o.2 ∙ sym here.0)))
        (λ (else : (j ≢ id) × (get_elem? views j ≡ some u)). t.held j u else.1 h)
        (at_set views id j w u e);
    each = λ x lo hi.
        let o = t.each x lo hi in
        dite (ℕ_discrete (t.who x) id)
        (λ here.
        let old = same_at views id o.0 v (ap (get_elem? views) (sym here) ∙ o.1) at in (
          w,
          ap (get_elem? (set views id w)) here ∙ set_here views id w (in_range views id v at),
          same
              ∙ (ap (λ (k : Known E). k.waits) (sym old) ∙ o.2),
          is ∙ (ap (λ (k : Known E). k.ticket) (sym old) ∙ o.3),
        ))
        (λ ne. (o.0, set_else views id (t.who x) w ne ∙ o.1, o.2, o.3));
  }

  -- a view that has no number before or after
  pub idles : (turn ticket : ℕ) (views : List (Known E)) (id : ℕ) (v w : Known E) → Tickets turn ticket views
      → get_elem? views id ≡ some v → v.waits ≡ false → w.waits ≡ false
      → Tickets turn ticket (set views id w)
  idles turn ticket views id v w t at free still = record {
    who = t.who;
    count = (let s = total-set waiting views id v w at in let a = waiting-false v free in let b = waiting-false w still in
        let c = t.count in omega arith);
    held = λ j u e h. ⊎_elim
        (λ (here : (j ≡ id) × (w ≡ u)). clash u.waits h (ap (λ (k : Known E). k.waits) (sym here.1) ∙ still))
        (λ (else : (j ≢ id) × (get_elem? views j ≡ some u)). t.held j u else.1 h)
        (at_set views id j w u e);
    each = λ x lo hi.
        let o = t.each x lo hi in
        let apart : t.who x ≢ id = λ e. clash o.0.waits o.2
        (ap (λ (k : Known E). k.waits) (same_at views id o.0 v (ap (get_elem? views) (sym e) ∙ o.1) at) ∙ free) in
        (o.0, set_else views id (t.who x) w apart ∙ o.1, o.2, o.3);
  }

  -- a new seat has no number
  pub grows : (turn ticket : ℕ) (views : List (Known E)) (w : Known E) → Tickets turn ticket views → w.waits ≡ false
      → Tickets turn ticket (views ++ w ∷ [])
  grows turn ticket views w t free = record {
    who = t.who;
    count = (let s = total-append waiting views (w ∷ []) in let a = waiting-false w free in let c = t.count in omega arith);
    held = λ j u e h. ⊎_elim
        (λ (was : get_elem? views j ≡ some u). t.held j u was h)
        (λ (new : w ≡ u). clash u.waits h (ap (λ (k : Known E). k.waits) (sym new) ∙ free))
        (at_snoc views w u j e);
    each = λ x lo hi. let o = t.each x lo hi in (o.0, at_longer views (w ∷ []) (t.who x) o.0 o.1, o.2, o.3);
  }

  -- a seat whose number is on the board has the turn
  pub is_turn : (turn ticket : ℕ) (views : List (Known E)) (id : ℕ) (v : Known E) → Tickets turn ticket views
      → length views < modulus → get_elem? views id ≡ some v → v.waits ≡ true
      → turn % modulus ≡ v.ticket % modulus → v.ticket ≡ turn
  is_turn turn ticket views id v t few at has e =
      let o = t.held id v at has in
      let lo = o.0 in let hi = o.1 in
      let c = t.count in
      let le : total waiting views ≤ length views = total_le waiting views waiting_le in
      sym (one_turn turn v.ticket modulus lo (omega arith) e)
