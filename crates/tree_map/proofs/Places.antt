-- The place of a digit in a node.
use Rattle.std.proofs.Common.{◌≡◌, ◌≢◌, ℕ, suc, zero, ◌+◌, ◌<◌, ◌≤◌, ◌⊎◌, true, false, not, cond, nat_lt, List, [], ◌∷◌, length, get_or, insert, Some, None, is_some, refl, arith, ap, sym, subst, ◌∙◌, inl, inr, one-add}
use Rattle.std.specs.List.{remove}
use Rattle.std.specs.List.Sorted.{IsPartitionedBy, IsPartitionPoint}
use Rattle.std.proofs.Math.ListN.{set}
use Rattle.std.proofs.lemmas.Bool.{cases_lt, lt-ltb, le-ltb, ltb-true, true≢false}
use Rattle.std.proofs.lemmas.List.Sums.{prefix_len-le-length, prefix_len_is}
use Rattle.std.specs.declared.cmp.Ordering.TheVariants.{Less, Equal, Greater}
use Rattle.std.specs.Cmp.{nat_cmp_is}
use Rattle.std.specs.Ordering.{nat_cmp}
use Rattle.std.specs.FinMap.{find, put}
use Rattle.std.specs.FinMap.Entries.{by_order}
use Rattle.tree_map.specs.Pairs.{IsAscending, cut}
use Rattle.tree_map.specs.Places.{place_of}
use Rattle.tree_map.specs.Ordered.{AreAbove, Rises, rises_of}
use Rattle.tree_map.proofs.Joining.{tied, apart, missing_above}

-- a key is lower than a digit, or the digit, or higher
three : (d k : ℕ) → (k < d) ⊎ ((d ≡ k) ⊎ (d < k))
three d k =
    elim (cases_lt k d) [
      | inl h ↦ inl h
      | inr h ↦ inr (elim (cases_lt d k) [ inl l ↦ inr l | inr l ↦ inl (omega arith) ])
    ]

module _ {B : Type 0} where
  -- each pair that stands in a list above a number is above it
  above_at : (n : ℕ) (bs : List (ℕ × B)) (i : ℕ) (d : ℕ × B) → AreAbove n bs → i < length bs → n < (get_or bs i d).0
  above_at n [] i d a l = absurd (omega arith)
  above_at n (x ∷ xs) zero d a l = a.0
  above_at n (x ∷ xs) (suc i) d a l = above_at n xs i d a.1 (omega arith)

  -- the place of a digit above the first, and of one that isn't
  place_later : (d : ℕ) (p : ℕ × B) (ps : List (ℕ × B)) → p.0 < d → place_of d (p ∷ ps) ≡ suc (place_of d ps)
  place_later d p ps h = ap (λ b. cond b (1 + place_of d ps) 0) (lt-ltb p.0 d h) ∙ one-add (place_of d ps)

  place_first : (d : ℕ) (p : ℕ × B) (ps : List (ℕ × B)) → d ≤ p.0 → place_of d (p ∷ ps) ≡ 0
  place_first d p ps h = ap (λ b. cond b (1 + place_of d ps) 0) (le-ltb p.0 d h)

  pub place_within : (d : ℕ) (bs : List (ℕ × B)) → place_of d bs ≤ length bs
  place_within d bs = prefix_len-le-length (λ b. nat_lt b.0 d) bs

  rising : (d : ℕ) (bs : List (ℕ × B)) → Rises bs → IsPartitionedBy (λ b. nat_lt b.0 d) bs
  rising d [] h i j e le l up = absurd (omega (arith, l))
  rising d (x ∷ xs) h zero zero e le l up = up
  rising d (x ∷ xs) h zero (suc j) e le l up =
      let over : x.0 < (get_or xs j e).0 = above_at x.0 xs j e h.0 (omega (arith, l)) in
      let low : (get_or xs j e).0 < d = ltb-true (get_or xs j e).0 d up in
      lt-ltb x.0 d (omega arith)
  rising d (x ∷ xs) h (suc i) zero e le l up = absurd (omega (arith, le))
  rising d (x ∷ xs) h (suc i) (suc j) e le l up = rising d xs h.1 i j e (omega (arith, le)) (omega (arith, l)) up

  -- the keys are partitioned by any digit
  pub partitioned : (d : ℕ) (bs : List (ℕ × B)) → IsAscending bs → IsPartitionedBy (λ b. nat_lt b.0 d) bs
  partitioned d bs asc = rising d bs (rises_of bs asc)

  -- a place between the lower keys and the others is the digit's
  pub place_from_point : (d : ℕ) (bs : List (ℕ × B)) (i : ℕ) → i ≤ length bs → IsPartitionPoint (λ (x : ℕ × B). nat_lt x.0 d ≡ true) (λ x. nat_lt x.0 d ≡ false) bs i → i ≡ place_of d bs
  place_from_point d [] i l p = omega (arith, l)
  place_from_point d (x ∷ xs) i l p = sym (prefix_len_is (λ (b : ℕ × B). nat_lt b.0 d) (x ∷ xs) i x l (λ k b. p.0 k x (omega arith) b) (λ b. p.1 i x (omega arith) b))

  -- ---- words at the first pair
  put_later : (d : ℕ) (v : B) (p : ℕ × B) (ps : List (ℕ × B)) → p.0 < d → put nat_cmp d v (p ∷ ps) ≡ p ∷ put nat_cmp d v ps
  put_later d v p ps h = ap (λ r. by_order r ((d, v) ∷ p ∷ ps) ((p.0, v) ∷ ps) (p ∷ put nat_cmp d v ps)) (sym (nat_cmp_is d p.0 Greater h))

  put_here : (d : ℕ) (v : B) (p : ℕ × B) (ps : List (ℕ × B)) → d ≡ p.0 → put nat_cmp d v (p ∷ ps) ≡ (d, v) ∷ ps
  put_here d v p ps h = ap (λ r. by_order r ((d, v) ∷ p ∷ ps) ((p.0, v) ∷ ps) (p ∷ put nat_cmp d v ps)) (sym (nat_cmp_is d p.0 Equal h)) ∙ ap (λ (k : ℕ). (k, v) ∷ ps) (sym h)

  put_before : (d : ℕ) (v : B) (p : ℕ × B) (ps : List (ℕ × B)) → d < p.0 → put nat_cmp d v (p ∷ ps) ≡ (d, v) ∷ p ∷ ps
  put_before d v p ps h = ap (λ r. by_order r ((d, v) ∷ p ∷ ps) ((p.0, v) ∷ ps) (p ∷ put nat_cmp d v ps)) (sym (nat_cmp_is d p.0 Less h))

  find_later : (d : ℕ) (p : ℕ × B) (ps : List (ℕ × B)) → d ≢ p.0 → find nat_cmp d (p ∷ ps) ≡ find nat_cmp d ps
  find_later d p ps h = ap (λ b. cond b (Some p.1) (find nat_cmp d ps)) (apart d p.0 h)

  find_here : (d : ℕ) (p : ℕ × B) (ps : List (ℕ × B)) → d ≡ p.0 → find nat_cmp d (p ∷ ps) ≡ Some p.1
  find_here d p ps h = ap (λ b. cond b (Some p.1) (find nat_cmp d ps)) (tied d p.0 h)

  cut_later : (d : ℕ) (p : ℕ × B) (ps : List (ℕ × B)) → d ≢ p.0 → cut d (p ∷ ps) ≡ p ∷ cut d ps
  cut_later d p ps h = ap (λ b. cond (not b) (p ∷ cut d ps) (cut d ps)) (apart d p.0 h)

  cut_here : (d : ℕ) (p : ℕ × B) (ps : List (ℕ × B)) → d ≡ p.0 → cut d (p ∷ ps) ≡ cut d ps
  cut_here d p ps h = ap (λ b. cond (not b) (p ∷ cut d ps) (cut d ps)) (tied d p.0 h)

  cut_above : (d x : ℕ) (ps : List (ℕ × B)) → d ≤ x → AreAbove x ps → cut d ps ≡ ps
  cut_above d x [] l h = refl
  cut_above d x (p ∷ ps) l h = cut_later d p ps (let n : d ≢ p.0 = omega (arith, h.0) in n) ∙ ap (λ qs. p ∷ qs) (cut_above d x ps l h.1)

  -- nothing but the first pair can be there where the digit isn't above it
  first_only : (d : ℕ) (p : ℕ × B) (ps : List (ℕ × B)) → d < p.0 → Rises (p ∷ ps) → find nat_cmp d (p ∷ ps) ≡ None
  first_only d p ps l h = find_later d p ps (let n : d ≢ p.0 = omega arith in n) ∙ missing_above d p.0 ps (omega arith) h.0

  -- ---- a digit that is there
  pub found_within : (d : ℕ) (bs : List (ℕ × B)) → Rises bs → is_some (find nat_cmp d bs) ≡ true → place_of d bs < length bs
  found_within d [] h e = absurd (true≢false (sym e))
  found_within d (p ∷ ps) h e =
      elim (three d p.0) [
        | inl l ↦
            let rest : place_of d ps < length ps = found_within d ps h.1 (ap is_some (sym (find_later d p ps (let n : d ≢ p.0 = omega arith in n))) ∙ e) in
            let at : place_of d (p ∷ ps) ≡ suc (place_of d ps) = place_later d p ps l in
            omega arith
        | inr o ↦ elim o [
          | inl q ↦ (let at : place_of d (p ∷ ps) ≡ 0 = place_first d p ps (omega arith) in omega arith)
          | inr q ↦ absurd (true≢false (sym e ∙ ap is_some (first_only d p ps q h)))
        ]
      ]

  pub found_at : (d : ℕ) (bs : List (ℕ × B)) (e : ℕ × B) → Rises bs → is_some (find nat_cmp d bs) ≡ true → find nat_cmp d bs ≡ Some (get_or bs (place_of d bs) e).1
  found_at d [] f h e = absurd (true≢false (sym e))
  found_at d (p ∷ ps) f h e =
      elim (three d p.0) [
        | inl l ↦
            let n : d ≢ p.0 = omega arith in
            find_later d p ps n ∙ found_at d ps f h.1 (ap is_some (sym (find_later d p ps n)) ∙ e) ∙ ap (λ i. Some (get_or (p ∷ ps) i f).1) (sym (place_later d p ps l))
        | inr o ↦ elim o [
          | inl q ↦ find_here d p ps q ∙ ap (λ i. Some (get_or (p ∷ ps) i f).1) (sym (place_first d p ps (omega arith)))
          | inr q ↦ absurd (true≢false (sym e ∙ ap is_some (first_only d p ps q h)))
        ]
      ]

  pub set_found : (d : ℕ) (v : B) (bs : List (ℕ × B)) → Rises bs → is_some (find nat_cmp d bs) ≡ true → set bs (place_of d bs) (d, v) ≡ put nat_cmp d v bs
  set_found d v [] h e = absurd (true≢false (sym e))
  set_found d v (p ∷ ps) h e =
      elim (three d p.0) [
        | inl l ↦
            let n : d ≢ p.0 = omega arith in
            ap (λ i. set (p ∷ ps) i (d, v)) (place_later d p ps l) ∙ ap (λ qs. p ∷ qs) (set_found d v ps h.1 (ap is_some (sym (find_later d p ps n)) ∙ e)) ∙ sym (put_later d v p ps l)
        | inr o ↦ elim o [
          | inl q ↦ ap (λ i. set (p ∷ ps) i (d, v)) (place_first d p ps (omega arith)) ∙ sym (put_here d v p ps q)
          | inr q ↦ absurd (true≢false (sym e ∙ ap is_some (first_only d p ps q h)))
        ]
      ]

  pub remove_found : (d : ℕ) (bs : List (ℕ × B)) → Rises bs → is_some (find nat_cmp d bs) ≡ true → remove bs (place_of d bs) ≡ cut d bs
  remove_found d [] h e = absurd (true≢false (sym e))
  remove_found d (p ∷ ps) h e =
      elim (three d p.0) [
        | inl l ↦
            let n : d ≢ p.0 = omega arith in
            ap (λ i. remove (p ∷ ps) i) (place_later d p ps l) ∙ ap (λ qs. p ∷ qs) (remove_found d ps h.1 (ap is_some (sym (find_later d p ps n)) ∙ e)) ∙ sym (cut_later d p ps n)
        | inr o ↦ elim o [
          | inl q ↦ ap (λ i. remove (p ∷ ps) i) (place_first d p ps (omega arith)) ∙ sym (cut_here d p ps q ∙ cut_above d p.0 ps (omega arith) h.0)
          | inr q ↦ absurd (true≢false (sym e ∙ ap is_some (first_only d p ps q h)))
        ]
      ]

  -- ---- a digit that isn't there
  pub insert_missing : (d : ℕ) (v : B) (bs : List (ℕ × B)) → find nat_cmp d bs ≡ None → insert bs (place_of d bs) (d, v) ≡ put nat_cmp d v bs
  insert_missing d v [] e = refl
  insert_missing d v (p ∷ ps) e =
      elim (three d p.0) [
        | inl l ↦
            let n : d ≢ p.0 = omega arith in
            ap (λ i. insert (p ∷ ps) i (d, v)) (place_later d p ps l) ∙ ap (λ qs. p ∷ qs) (insert_missing d v ps (sym (find_later d p ps n) ∙ e)) ∙ sym (put_later d v p ps l)
        | inr o ↦ elim o [
          | inl q ↦ absurd (true≢false (ap is_some (sym (find_here d p ps q) ∙ e)))
          | inr q ↦ ap (λ i. insert (p ∷ ps) i (d, v)) (place_first d p ps (omega arith)) ∙ sym (put_before d v p ps q)
        ]
      ]

  pub cut_missing : (d : ℕ) (bs : List (ℕ × B)) → find nat_cmp d bs ≡ None → bs ≡ cut d bs
  cut_missing d [] e = refl
  cut_missing d (p ∷ ps) e =
      let later : d ≢ p.0 → p ∷ ps ≡ cut d (p ∷ ps) = λ n. ap (λ qs. p ∷ qs) (cut_missing d ps (sym (find_later d p ps n) ∙ e)) ∙ sym (cut_later d p ps n) in
      elim (three d p.0) [
        | inl l ↦ later (let n : d ≢ p.0 = omega arith in n)
        | inr o ↦ elim o [
          | inl q ↦ absurd (true≢false (ap is_some (sym (find_here d p ps q) ∙ e)))
          | inr q ↦ later (let n : d ≢ p.0 = omega arith in n)
        ]
      ]

  -- ---- what stands at the place
  -- the pair at the place of a digit has a key that isn't lower, so it is the digit's or the digit has none
  pub other_at : (d : ℕ) (bs : List (ℕ × B)) (e : ℕ × B) → Rises bs → place_of d bs < length bs → (get_or bs (place_of d bs) e).0 ≢ d → find nat_cmp d bs ≡ None
  other_at d [] f h l n = refl
  other_at d (p ∷ ps) f h l n =
      elim (three d p.0) [
        | inl k ↦
            let at : place_of d (p ∷ ps) ≡ suc (place_of d ps) = place_later d p ps k in
            let rest : (get_or ps (place_of d ps) f).0 ≢ d = subst (λ i. (get_or (p ∷ ps) i f).0 ≢ d) at n in
            find_later d p ps (let m : d ≢ p.0 = omega arith in m) ∙ other_at d ps f h.1 (omega arith) rest
        | inr o ↦ elim o [
          | inl q ↦ absurd (subst (λ i. (get_or (p ∷ ps) i f).0 ≢ d) (place_first d p ps (omega arith)) n (sym q))
          | inr q ↦ first_only d p ps q h
        ]
      ]

  pub past_end : (d : ℕ) (bs : List (ℕ × B)) → Rises bs → length bs ≤ place_of d bs → find nat_cmp d bs ≡ None
  past_end d [] h l = refl
  past_end d (p ∷ ps) h l =
      elim (three d p.0) [
        | inl k ↦
            let at : place_of d (p ∷ ps) ≡ suc (place_of d ps) = place_later d p ps k in
            find_later d p ps (let m : d ≢ p.0 = omega arith in m) ∙ past_end d ps h.1 (omega arith)
        | inr o ↦ (let at : place_of d (p ∷ ps) ≡ 0 = elim o [ inl q ↦ place_first d p ps (omega arith) | inr q ↦ place_first d p ps (omega arith) ] in absurd (omega arith))
      ]

  pub same_at : (d : ℕ) (bs : List (ℕ × B)) (e : ℕ × B) → place_of d bs < length bs → (get_or bs (place_of d bs) e).0 ≡ d → is_some (find nat_cmp d bs) ≡ true
  same_at d [] f l n = absurd (omega arith)
  same_at d (p ∷ ps) f l n =
      elim (three d p.0) [
        | inl k ↦
            let at : place_of d (p ∷ ps) ≡ suc (place_of d ps) = place_later d p ps k in
            let rest : (get_or ps (place_of d ps) f).0 ≡ d = subst (λ i. (get_or (p ∷ ps) i f).0 ≡ d) at n in
            ap is_some (find_later d p ps (let m : d ≢ p.0 = omega arith in m)) ∙ same_at d ps f (omega arith) rest
        | inr o ↦ elim o [
          | inl q ↦ ap is_some (find_here d p ps q)
          | inr q ↦ (let e : p.0 ≡ d = subst (λ i. (get_or (p ∷ ps) i f).0 ≡ d) (place_first d p ps (omega arith)) n in absurd (omega arith))
        ]
      ]

  -- ---- what a read at the place says
  pub read_same : (d : ℕ) (bs : List (ℕ × B)) (x : ℕ × B) → IsAscending bs → place_of d bs < length bs → x ≡ get_or bs (place_of d bs) x → x.0 ≡ d → find nat_cmp d bs ≡ Some x.1
  read_same d bs x asc l item same =
      let key : (get_or bs (place_of d bs) x).0 ≡ d = sym (ap (λ (p : ℕ × B). p.0) item) ∙ same in
      found_at d bs x (rises_of bs asc) (same_at d bs x l key) ∙ ap (λ (p : ℕ × B). Some p.1) (sym item)

  pub read_other : (d : ℕ) (bs : List (ℕ × B)) (x : ℕ × B) → IsAscending bs → place_of d bs < length bs → x ≡ get_or bs (place_of d bs) x → x.0 ≢ d → find nat_cmp d bs ≡ None
  read_other d bs x asc l item other = other_at d bs x (rises_of bs asc) l (λ key. other (ap (λ (p : ℕ × B). p.0) item ∙ key))

  pub read_past : (d : ℕ) (bs : List (ℕ × B)) → IsAscending bs → length bs ≤ place_of d bs → find nat_cmp d bs ≡ None
  read_past d bs asc l = past_end d bs (rises_of bs asc) l

  -- ---- edits at a place that was found, or not, in a reading of the node
  pub at_found : (d : ℕ) (bs : List (ℕ × B)) (at : ℕ) → IsAscending bs → at ≡ place_of d bs → is_some (find nat_cmp d bs) ≡ true → at < length bs
  at_found d bs at asc e f = let l : place_of d bs < length bs = found_within d bs (rises_of bs asc) f in omega arith

  pub at_missing : (d : ℕ) (bs : List (ℕ × B)) (at : ℕ) → at ≡ place_of d bs → at ≤ length bs
  at_missing d bs at e = let l : place_of d bs ≤ length bs = place_within d bs in omega arith

  pub set_at : (d : ℕ) (v : B) (bs cs : List (ℕ × B)) (at : ℕ) (x : ℕ × B) → cs ≡ bs → x ≡ (d, v) → IsAscending bs → at ≡ place_of d cs → is_some (find nat_cmp d cs) ≡ true → set bs at x ≡ put nat_cmp d v bs
  set_at d v bs cs at x same new asc e f =
      ap (λ y. set bs at y) new
      ∙ ap (λ i. set bs i (d, v)) (e ∙ ap (place_of d) same)
      ∙ set_found d v bs (rises_of bs asc) (subst (λ l. is_some (find nat_cmp d l) ≡ true) same f)

  pub insert_at : (d : ℕ) (v : B) (bs cs : List (ℕ × B)) (at : ℕ) (x : ℕ × B) → cs ≡ bs → x ≡ (d, v) → at ≡ place_of d cs → find nat_cmp d cs ≡ None → insert bs at x ≡ put nat_cmp d v bs
  insert_at d v bs cs at x same new e f =
      ap (λ y. insert bs at y) new
      ∙ ap (λ i. insert bs i (d, v)) (e ∙ ap (place_of d) same)
      ∙ insert_missing d v bs (subst (λ l. find nat_cmp d l ≡ None) same f)

  pub remove_at : (d : ℕ) (bs cs : List (ℕ × B)) (at : ℕ) → cs ≡ bs → IsAscending bs → at ≡ place_of d cs → is_some (find nat_cmp d cs) ≡ true → remove bs at ≡ cut d bs
  remove_at d bs cs at same asc e f =
      ap (λ i. remove bs i) (e ∙ ap (place_of d) same)
      ∙ remove_found d bs (rises_of bs asc) (subst (λ l. is_some (find nat_cmp d l) ≡ true) same f)

  pub none_cut : (d : ℕ) (bs cs : List (ℕ × B)) → cs ≡ bs → find nat_cmp d cs ≡ None → bs ≡ cut d bs
  none_cut d bs cs same f = cut_missing d bs (subst (λ l. find nat_cmp d l ≡ None) same f)
