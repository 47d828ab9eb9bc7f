-- What the steps leave of the history.
use Rattle.std.proofs.Common.{◌≡◌, ◌≢◌, ℕ, zero, suc, ◌+◌, ◌<◌, ◌≤◌, List, [], ◌∷◌, ◌++◌, length, set, drop, cond, true}
use Rattle.std.proofs.Common.{false, eqb, eq-eqb, ne_eqb, sym, refl, ap, ◌∙◌, subst, ⊎_elim, arith, length-set, length-append}
use Rattle.std.proofs.Common.{append_assoc, append-nil}
use mathlib.Core.Option.{some, some-ne-none}
use lib.ListN.{get_elem?}
use Rattle.atomic_table.proofs.Lists.{at_set, at_snoc, set_else}
use Rattle.seen_lock.specs.declared.known.Known.{Known}
use Rattle.seen_lock.specs.declared.known.Ended.{Ended}
use Rattle.std.proofs.lemmas.List.Elements.{filter-append, All-append, All-cons}
use Rattle.ifc_base.specs.Histories.{StartsWith, entries_of, AreMadeBelow}
use Rattle.seen_lock.specs.Order.{since, IsEnded, IsLive, Logged, Counted}
use Rattle.seen_lock.specs.Steps.{with_one_more, newborn}
use Rattle.seen_lock.proofs.Sums.{in_range, at_push}
use Rattle.seen_lock.proofs.Tickets.{clash}

module _ {E : Type 0} where
  pub starts_more : (log seen es : List E) → StartsWith log seen → StartsWith (log ++ es) seen
  starts_more log seen es s = (s.0 ++ es, ap (λ l. l ++ es) s.1 ∙ append_assoc seen s.0 es)

  pub starts_all : (log : List E) → StartsWith log log
  starts_all log = ([], sym (append-nil log))

  pub starts_as : (log l k : List E) → k ≡ l → StartsWith log l → StartsWith log k
  starts_as log l k e s = subst (StartsWith log) (sym e) s

  pub drop-append : (n : ℕ) (l m : List E) → n ≤ length l → drop n (l ++ m) ≡ drop n l ++ m
  drop-append zero l m h = refl
  drop-append (suc n) [] m h = absurd (omega arith)
  drop-append (suc n) (x ∷ xs) m h = drop-append n xs m (omega arith)

module _ {E : Type 0} (maker : E → ℕ) where
  pub below_more : (n k : ℕ) (l : List E) → n ≤ k → AreMadeBelow maker n l → AreMadeBelow maker k l
  below_more n k l h a i d low = let b = a i d low in omega arith

  pub of_none : (n k : ℕ) (l : List E) → n ≤ k → AreMadeBelow maker n l → entries_of maker k l ≡ []
  of_none n k [] h a = refl
  of_none n k (x ∷ xs) h a =
      let b : maker x < n = a 0 x (omega arith) in
      let ne : maker x ≢ k = λ e. absurd (omega arith) in
      ap (λ c. cond c (x ∷ entries_of maker k xs) (entries_of maker k xs)) (ne_eqb (maker x) k ne)
      ∙ of_none n k xs h (λ i d low. a (suc i) d (omega arith))

  -- all of these are of the seat id
  abbrev pub AreOf : ℕ → List E → Type 0
  AreOf id [] = Unit {0}
  AreOf id (e ∷ es) = (maker e ≡ id) × AreOf id es

  pub of_mine : (id : ℕ) (es : List E) → AreOf id es → entries_of maker id es ≡ es
  of_mine id [] h = refl
  of_mine id (e ∷ es) h =
      ap (λ c. cond c (e ∷ entries_of maker id es) (entries_of maker id es)) (eq-eqb (maker e) id h.0)
      ∙ ap (λ l. e ∷ l) (of_mine id es h.1)

  pub of_other : (id k : ℕ) (es : List E) → k ≢ id → AreOf id es → entries_of maker k es ≡ []
  of_other id k [] n h = refl
  of_other id k (e ∷ es) n h =
      let ne : maker e ≢ k = λ x. n (sym x ∙ h.0) in
      ap (λ c. cond c (e ∷ entries_of maker k es) (entries_of maker k es)) (ne_eqb (maker e) k ne)
      ∙ of_other id k es n h.1

  pub below_mine : (n id : ℕ) (es : List E) → id < n → AreOf id es → AreMadeBelow maker n es
  below_mine n id [] l h = λ i d low. absurd (omega arith)
  below_mine n id (e ∷ es) l h =
      let o = h.0 in
      All-cons (λ x. maker x < n) e es (omega arith) (below_mine n id es l h.1)

  pub since-append : (from k : ℕ) (log es : List E) → from ≤ length log
      → since maker from k (log ++ es) ≡ since maker from k log ++ entries_of maker k es
  since-append from k log es h =
      ap (entries_of maker k) (drop-append from log es h)
      ∙ filter-append (λ e. eqb (maker e) k) (drop from log) es

  -- the seat id adds entries of its own, or none
  pub adds : (from : ℕ) (log : List E) (views : List (Known E)) (id : ℕ) (v w : Known E) (es : List E)
      → Logged maker from log views → get_elem? views id ≡ some v → v.live ≡ true → AreOf id es
      → w.live ≡ true → w.number ≡ v.number → StartsWith (log ++ es) w.seen → w.own ≡ v.own ++ es → w.makes ≡ v.makes
      → w.made ≡ v.made → w.gone ≡ v.gone
      → Logged maker from (log ++ es) (set views id w)
  adds from log views id v w es g at live mine l n s o k m t =
      let me = g.live id v at live in
      let wide : length (set views id w) ≡ length views = length-set views id w in
      let room = in_range views id v at in
      let long = g.long in
      let ended : (x : Ended E) → IsEnded maker from log views x → IsEnded maker from (log ++ es) (set views id w) x = λ x q.
      let apart : x.number ≢ id = λ e. clash v.live live (q.ended v (ap (get_elem? views) e ∙ at)) in
      let made = q.made in
      record {
        seen = starts_more log x.seen es q.seen;
        own = since-append from x.number log es long
            ∙ (ap (λ r. since maker from x.number log ++ r) (of_other id x.number es apart mine)
            ∙ (append-nil (since maker from x.number log) ∙ q.own));
        made = omega arith;
        ended = λ u e. q.ended u (sym (set_else views id x.number w apart) ∙ e);
      } in
      record {
        long = omega (arith, length-append log es);
        below = subst (λ d. AreMadeBelow maker (length (set views id w)) d) (sym (drop-append from log es long))
            (All-append (λ e. maker e < length (set views id w)) (drop from log) es
            (below_more (length views) (length (set views id w)) (drop from log) (omega arith) g.below)
            (below_mine (length (set views id w)) id es (omega arith) mine));
        live = λ j u e h. ⊎_elim
            (λ (here : (j ≡ id) × (w ≡ u)).
            subst (λ (p : ℕ × Known E). IsLive maker from (log ++ es) (set views id w) p.0 p.1) (λ i. (sym here.0 i, here.1 i))
            record {
              number = n ∙ me.number;
              seen = s;
              own = since-append from id log es long
                  ∙ (ap (λ r. since maker from id log ++ r) (of_mine id es mine) ∙ (ap (λ r. r ++ es) me.own ∙ sym o));
            })
            (λ (else : (j ≢ id) × (get_elem? views j ≡ some u)).
            let q = g.live j u else.1 h in
            record {
              number = q.number;
              seen = starts_more log u.seen es q.seen;
              own = since-append from j log es long
                  ∙ (ap (λ r. since maker from j log ++ r) (of_other id j es else.0 mine)
                  ∙ (append-nil (since maker from j log) ∙ q.own));
            })
            (at_set views id j w u e);
        gone = λ j u e i x f. ⊎_elim
            (λ (here : (j ≡ id) × (w ≡ u)). ended x
            (g.gone id v at i x (ap (λ l. get_elem? l i) (sym t ∙ ap (λ (q : Known E). q.gone) here.1) ∙ f)))
            (λ (else : (j ≢ id) × (get_elem? views j ≡ some u)). ended x (g.gone j u else.1 i x f))
            (at_set views id j w u e);
        makes = λ j u e h. ⊎_elim
            (λ (here : (j ≡ id) × (w ≡ u)).
            let q = g.makes id v at (sym k ∙ (ap (λ (q : Known E). q.makes) here.1 ∙ h)) in
            (here.0 ∙ q.0, ap (λ (q : Known E). q.made) (sym here.1) ∙ (m ∙ (q.1 ∙ sym wide))))
            (λ (else : (j ≢ id) × (get_elem? views j ≡ some u)). let q = g.makes j u else.1 h in (q.0, q.1 ∙ sym wide))
            (at_set views id j w u e);
      }

  -- the seat changes what isn't about the history, or sees more of it
  pub relogs : (from : ℕ) (log : List E) (views : List (Known E)) (id : ℕ) (v w : Known E) → Logged maker from log views
      → get_elem? views id ≡ some v → v.live ≡ true
      → w.live ≡ true → w.number ≡ v.number → StartsWith log w.seen → w.own ≡ v.own → w.makes ≡ v.makes → w.made ≡ v.made
      → w.gone ≡ v.gone
      → Logged maker from log (set views id w)
  relogs from log views id v w g at live l n s o k m t =
      subst (λ x. Logged maker from x (set views id w)) (append-nil log)
      (adds from log views id v w [] g at live tt l n (starts_more log w.seen [] s) (o ∙ sym (append-nil v.own)) k m t)

  pub ended_set : (from : ℕ) (log : List E) (views : List (Known E)) (id : ℕ) (v w : Known E) (x : Ended E)
      → get_elem? views id ≡ some v → (v.live ≡ false → w.live ≡ false)
      → IsEnded maker from log views x → IsEnded maker from log (set views id w) x
  ended_set from log views id v w x at falls q =
      let wide : length (set views id w) ≡ length views = length-set views id w in
      let made = q.made in
      record {
        seen = q.seen;
        own = q.own;
        made = omega arith;
        ended = λ u e. ⊎_elim
            (λ (here : (x.number ≡ id) × (w ≡ u)). ap (λ (k : Known E). k.live) (sym here.1)
            ∙ falls (q.ended v (ap (get_elem? views) here.0 ∙ at)))
            (λ (else : (x.number ≢ id) × (get_elem? views x.number ≡ some u)). q.ended u else.1)
            (at_set views id x.number w u e);
      }

  -- the seat ends
  pub spends : (from : ℕ) (log : List E) (views : List (Known E)) (id : ℕ) (v w : Known E) → Logged maker from log views
      → get_elem? views id ≡ some v
      → w.live ≡ false → w.makes ≡ false → w.gone ≡ [] → Logged maker from log (set views id w)
  spends from log views id v w g at dead plain empty =
      let wide : length (set views id w) ≡ length views = length-set views id w in
      record {
        long = g.long;
        below = subst (λ n. AreMadeBelow maker n (drop from log)) (sym wide) g.below;
        live = λ j u e h. ⊎_elim
            (λ (here : (j ≡ id) × (w ≡ u)). clash u.live h (ap (λ (k : Known E). k.live) (sym here.1) ∙ dead))
            (λ (else : (j ≢ id) × (get_elem? views j ≡ some u)). let q = g.live j u else.1 h in
            record { number = q.number; seen = q.seen; own = q.own })
            (at_set views id j w u e);
        gone = λ j u e i x f. ⊎_elim
            (λ (here : (j ≡ id) × (w ≡ u)). absurd
            (some-ne-none x (sym (ap (λ l. get_elem? l i) (sym empty ∙ ap (λ (q : Known E). q.gone) here.1) ∙ f))))
            (λ (else : (j ≢ id) × (get_elem? views j ≡ some u)).
            ended_set from log views id v w x at (λ _. dead) (g.gone j u else.1 i x f))
            (at_set views id j w u e);
        makes = λ j u e h. ⊎_elim
            (λ (here : (j ≡ id) × (w ≡ u)). clash u.makes h (ap (λ (k : Known E). k.makes) (sym here.1) ∙ plain))
            (λ (else : (j ≢ id) × (get_elem? views j ≡ some u)). let q = g.makes j u else.1 h in (q.0, q.1 ∙ sym wide))
            (at_set views id j w u e);
      }

  -- the seat takes in one that has ended
  pub gathers : (from : ℕ) (log : List E) (views : List (Known E)) (id : ℕ) (v : Known E) (x : Ended E)
      → Logged maker from log views → get_elem? views id ≡ some v
      → IsEnded maker from log views x → Logged maker from log (set views id (record v { gone = v.gone ++ x ∷ [] }))
  gathers from log views id v x g at ended =
      let w : Known E = record v { gone = v.gone ++ x ∷ [] } in
      let wide : length (set views id w) ≡ length views = length-set views id w in
      record {
        long = g.long;
        below = subst (λ n. AreMadeBelow maker n (drop from log)) (sym wide) g.below;
        live = λ j u e h. ⊎_elim
            (λ (here : (j ≡ id) × (w ≡ u)).
            let q = g.live id v at (ap (λ (k : Known E). k.live) here.1 ∙ h) in
            subst (λ (p : ℕ × Known E). IsLive maker from log (set views id w) p.0 p.1)
            (λ i. (sym here.0 i, here.1 i)) record { number = q.number; seen = q.seen; own = q.own })
            (λ (else : (j ≢ id) × (get_elem? views j ≡ some u)). let q = g.live j u else.1 h in
            record { number = q.number; seen = q.seen; own = q.own })
            (at_set views id j w u e);
        gone = λ j u e i y f. ended_set from log views id v w y at (λ d. d) (⊎_elim
            (λ (here : (j ≡ id) × (w ≡ u)). ⊎_elim
            (λ was. g.gone id v at i y was)
            (λ (new : x ≡ y). subst (IsEnded maker from log views) new ended)
            (at_snoc v.gone x y i (ap (λ (k : Known E). get_elem? k.gone i) here.1 ∙ f)))
            (λ (else : (j ≢ id) × (get_elem? views j ≡ some u)). g.gone j u else.1 i y f)
            (at_set views id j w u e));
        makes = λ j u e h. ⊎_elim
            (λ (here : (j ≡ id) × (w ≡ u)).
            let q = g.makes id v at (ap (λ (k : Known E). k.makes) here.1 ∙ h) in
            (here.0 ∙ q.0, ap (λ (k : Known E). k.made) (sym here.1) ∙ (q.1 ∙ sym wide)))
            (λ (else : (j ≢ id) × (get_elem? views j ≡ some u)). let q = g.makes j u else.1 h in (q.0, q.1 ∙ sym wide))
            (at_set views id j w u e);
      }

  -- the first seat makes one more
  pub makes_one : (from : ℕ) (log : List E) (views : List (Known E)) (id : ℕ) (v : Known E) → Logged maker from log views
      → get_elem? views id ≡ some v → v.live ≡ true → v.makes ≡ true
      → Logged maker from log (set views id (with_one_more v) ++ newborn v ∷ [])
  makes_one from log views id v g at live first =
      let w : Known E = with_one_more v in
      let n : Known E = newborn v in
      let all = set views id w ++ n ∷ [] in
      let wide : length (set views id w) ≡ length views = length-set views id w in
      let longer : length all ≡ length (set views id w) + 1 = length-append (set views id w) (n ∷ []) in
      let mine = g.makes id v at first in
      let me = g.live id v at live in
      let pushed : (x : Ended E) → IsEnded maker from log views x → IsEnded maker from log all x = λ x q.
      let r = ended_set from log views id v w x at (λ d. d) q in
      let made = r.made in
      record {
        seen = r.seen;
        own = r.own;
        made = omega arith;
        ended = λ u e. ⊎_elim
            (λ was. r.ended u was)
            (λ (new : (x.number ≡ length (set views id w)) × (n ≡ u)). let here = new.0 in absurd (omega arith))
            (at_push (set views id w) n u x.number e);
      } in
      record {
        long = g.long;
        below = below_more (length views) (length all) (drop from log) (omega arith) g.below;
        live = λ j u e h. ⊎_elim
            (λ (was : get_elem? (set views id w) j ≡ some u). ⊎_elim
            (λ (here : (j ≡ id) × (w ≡ u)).
            subst (λ (p : ℕ × Known E). IsLive maker from log all p.0 p.1)
            (λ i. (sym here.0 i, here.1 i)) record { number = me.number; seen = me.seen; own = me.own })
            (λ (else : (j ≢ id) × (get_elem? views j ≡ some u)). let q = g.live j u else.1 h in
            record { number = q.number; seen = q.seen; own = q.own })
            (at_set views id j w u was))
            (λ (new : (j ≡ length (set views id w)) × (n ≡ u)).
            let j_is = new.0 in
            subst (λ (p : ℕ × Known E). IsLive maker from log all p.0 p.1) (λ i. (sym (j_is ∙ wide) i, new.1 i))
            record {
              number = mine.1;
              seen = me.seen;
              own =
                  of_none (length views) (length views) (drop from log) (omega arith) g.below;
            })
            (at_push (set views id w) n u j e);
        gone = λ j u e i x f. ⊎_elim
            (λ (was : get_elem? (set views id w) j ≡ some u). ⊎_elim
            (λ (here : (j ≡ id) × (w ≡ u)). pushed x (g.gone id v at i x (ap (λ (k : Known E). get_elem? k.gone i) here.1 ∙ f)))
            (λ (else : (j ≢ id) × (get_elem? views j ≡ some u)). pushed x (g.gone j u else.1 i x f))
            (at_set views id j w u was))
            (λ (new : (j ≡ length (set views id w)) × (n ≡ u)).
            absurd (some-ne-none x (sym (ap (λ (k : Known E). get_elem? k.gone i) new.1 ∙ f))))
            (at_push (set views id w) n u j e);
        makes = λ j u e h. ⊎_elim
            (λ (was : get_elem? (set views id w) j ≡ some u). ⊎_elim
            (λ (here : (j ≡ id) × (w ≡ u)). (
              here.0 ∙ mine.0,
              ap (λ (k : Known E). k.made) (sym here.1)
                  ∙ (let m = mine.1 in omega arith),
            ))
            (λ (else : (j ≢ id) × (get_elem? views j ≡ some u)). absurd (else.0 ((g.makes j u else.1 h).0 ∙ sym mine.0)))
            (at_set views id j w u was))
            (λ (new : (j ≡ length (set views id w)) × (n ≡ u)). clash u.makes h (ap (λ (k : Known E). k.makes) (sym new.1)))
            (at_push (set views id w) n u j e);
      }

module _ {E : Type 0} where
  pub counted_set : (seats : ℕ) (views : List (Known E)) (id : ℕ) (v w : Known E) → Counted seats views
      → get_elem? views id ≡ some v → w.count ≡ v.count → (w.live ≡ true → v.live ≡ true) → Counted seats (set views id w)
  counted_set seats views id v w c at same was j u e h = ⊎_elim
      (λ (here : (j ≡ id) × (w ≡ u)). ap (λ (k : Known E). k.count) (sym here.1)
      ∙ (same ∙ c id v at (was (ap (λ (k : Known E). k.live) here.1 ∙ h))))
      (λ (else : (j ≢ id) × (get_elem? views j ≡ some u)). c j u else.1 h)
      (at_set views id j w u e)

  pub counted_spent : (seats : ℕ) (views : List (Known E)) (id : ℕ) (w : Known E) → Counted seats views → w.live ≡ false
      → Counted seats (set views id w)
  counted_spent seats views id w c dead j u e h = ⊎_elim
      (λ (here : (j ≡ id) × (w ≡ u)). clash u.live h (ap (λ (k : Known E). k.live) (sym here.1) ∙ dead))
      (λ (else : (j ≢ id) × (get_elem? views j ≡ some u)). c j u else.1 h)
      (at_set views id j w u e)

  pub counted_push : (seats : ℕ) (views : List (Known E)) (w : Known E) → Counted seats views → w.count ≡ seats
      → Counted seats (views ++ w ∷ [])
  counted_push seats views w c is j u e h = ⊎_elim
      (λ (was : get_elem? views j ≡ some u). c j u was h)
      (λ (new : w ≡ u). ap (λ (k : Known E). k.count) (sym new) ∙ is)
      (at_snoc views w u j e)
