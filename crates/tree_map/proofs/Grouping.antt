-- Branches in groups: one more, whose key is above the others.
use Rattle.std.proofs.Common.{◌≡◌, ◌≢◌, ℕ, ◌+◌, ◌*◌, ◌/◌, ◌%◌, ◌<◌, ◌≤◌, List, [], ◌∷◌, ◌++◌, refl, arith, ap, sym, subst, ◌∙◌, append_assoc}
use Rattle.std.proofs.Math.Nat.{div-add-mod}
use Rattle.std.proofs.lemmas.Nat.{mod_below}
use Rattle.tree_map.specs.Pairs.{raised, IsAscending, AreBelow, AllBranches}
use Rattle.tree_map.specs.Ordered.{AreAbove, Rises, rises_of, rises_is}
use Rattle.tree_map.specs.Groups.{parted, opened, closed, IsGroup, AreGroups, IsOpened}
use Rattle.tree_map.proofs.Listing.{raised_append, joined_append, nothing_more}

module _ {V : Type 0} where
  -- ---- one pair more at the end
  above_last : (x k : ℕ) (v : V) (ps : List (ℕ × V)) → AreAbove x (ps ++ (k, v) ∷ []) → x < k
  above_last x k v [] h = h.0
  above_last x k v (p ∷ ps) h = above_last x k v ps h.1

  above_more : (x k : ℕ) (v : V) (ps : List (ℕ × V)) → AreAbove x ps → x < k → AreAbove x (ps ++ (k, v) ∷ [])
  above_more x k v [] h l = (l, tt)
  above_more x k v (p ∷ ps) h l = (h.0, above_more x k v ps h.1 l)

  rises_last : (k : ℕ) (v : V) (ps : List (ℕ × V)) → Rises (ps ++ (k, v) ∷ []) → AreBelow k ps
  rises_last k v [] h = tt
  rises_last k v (p ∷ ps) h = (above_last p.0 k v ps h.0, rises_last k v ps h.1)

  rises_more : (k : ℕ) (v : V) (ps : List (ℕ × V)) → Rises ps → AreBelow k ps → Rises (ps ++ (k, v) ∷ [])
  rises_more k v [] h l = (tt, tt)
  rises_more k v (p ∷ ps) h l = (above_more p.0 k v ps h.0 l.0, rises_more k v ps h.1 l.1)

  below_last : (n k : ℕ) (v : V) (ps : List (ℕ × V)) → AreBelow n ps → k < n → AreBelow n (ps ++ (k, v) ∷ [])
  below_last n k v [] h l = (l, tt)
  below_last n k v (p ∷ ps) h l = (h.0, below_last n k v ps h.1 l)

  below_weaker : (n m : ℕ) (ps : List (ℕ × V)) → n ≤ m → AreBelow n ps → AreBelow m ps
  below_weaker n m [] l h = tt
  below_weaker n m (p ∷ ps) l h = (omega (arith, h.0), below_weaker n m ps l h.1)

  all_last : (P : V → Type 0) (k : ℕ) (v : V) (ps : List (ℕ × V)) → AllBranches P ps → P v → AllBranches P (ps ++ (k, v) ∷ [])
  all_last P k v [] h l = (l, tt)
  all_last P k v (p ∷ ps) h l = (h.0, all_last P k v ps h.1 l)

  below_right : (n : ℕ) (ps qs : List (ℕ × V)) → AreBelow n (ps ++ qs) → AreBelow n qs
  below_right n [] qs h = h
  below_right n (p ∷ ps) qs h = below_right n ps qs h.1

  raised_under : (n d k : ℕ) (ps : List (ℕ × V)) → k ≡ n + d → AreBelow k (raised n ps) → AreBelow d ps
  raised_under n d k [] e h = tt
  raised_under n d k (p ∷ ps) e h = (omega (arith, h.0, e), raised_under n d k ps e h.1)

  above_front : (x : ℕ) (ps qs : List (ℕ × V)) → AreAbove x (ps ++ qs) → AreAbove x ps
  above_front x [] qs h = tt
  above_front x (p ∷ ps) qs h = (h.0, above_front x ps qs h.1)

  rises_front : (ps qs : List (ℕ × V)) → Rises (ps ++ qs) → Rises ps
  rises_front [] qs h = tt
  rises_front (p ∷ ps) qs h = (above_front p.0 ps qs h.0, rises_front ps qs h.1)

  -- the pairs that were yielded, and the next
  pub next_ascends : (ys ws zs all : List (ℕ × V)) (k : ℕ) (v : V) → ws ≡ (k, v) ∷ zs → IsAscending (ys ++ ws) → all ≡ ys → IsAscending (all ++ (k, v) ∷ [])
  next_ascends ys ws zs all k v e h same =
      let up : IsAscending ((ys ++ (k, v) ∷ []) ++ zs) = subst IsAscending (ap (λ xs. ys ++ xs) e ∙ sym (append_assoc ys ((k, v) ∷ []) zs)) h in
      subst (λ xs. IsAscending (xs ++ (k, v) ∷ [])) (sym same) (rises_is _ (rises_front (ys ++ (k, v) ∷ []) zs (rises_of _ up)))

  last_there : (ps : List (ℕ × V)) (p : ℕ × V) → ps ++ p ∷ [] ≢ []
  last_there [] p = λ e. absurd (cc)
  last_there (q ∷ ps) p = λ e. absurd (cc)

whole_key : (key : ℕ) → key ≡ key / 32 * 32 + key % 32
whole_key key = omega (arith, div-add-mod key 32)

module _ {B : Type 0} where
  -- all branches are below the key that comes behind them
  under : (gs : List (ℕ × List (ℕ × B))) (high : ℕ) (bs : List (ℕ × B)) (key : ℕ) (b : B) → IsAscending (opened gs high bs ++ (key, b) ∷ []) → AreBelow key (raised (high * 32) bs)
  under gs high bs key b up = below_right key (parted gs) (raised (high * 32) bs) (rises_last key b (opened gs high bs) (rises_of _ up))

  one_raised : (n d key : ℕ) (b : B) → key ≡ n + d → raised n ((d, b) ∷ []) ≡ (key, b) ∷ []
  one_raised n d key b e = ap (λ k. (k, b) ∷ []) (sym e)

  -- one more branch of the same group
  pub pushed : (gs : List (ℕ × List (ℕ × B))) (high : ℕ) (bs : List (ℕ × B)) (key : ℕ) (b : B) → IsOpened gs high bs → IsAscending (opened gs high bs ++ (key, b) ∷ []) → key / 32 ≡ high
      → IsOpened gs high (bs ++ (key % 32, b) ∷ []) × (opened gs high (bs ++ (key % 32, b) ∷ []) ≡ opened gs high bs ++ (key, b) ∷ [])
  pushed gs high bs key b h up same =
      let e : key ≡ high * 32 + key % 32 = whole_key key ∙ ap (λ n. n * 32 + key % 32) same in
      let less : AreBelow (key % 32) bs = raised_under (high * 32) (key % 32) key bs e (under gs high bs key b up) in (
        record {
          groups = h.groups;
          behind = h.behind;
          rises = rises_is _ (rises_more (key % 32) b bs (rises_of bs h.rises) less);
          digits = below_last 32 (key % 32) b bs h.digits (mod_below key 32 (omega arith));
          begun = λ none. absurd (last_there bs (key % 32, b) none);
        },
        ap (λ xs. parted gs ++ xs) (raised_append (high * 32) bs ((key % 32, b) ∷ []) ∙ ap (λ xs. raised (high * 32) bs ++ xs) (one_raised (high * 32) (key % 32) key b e))
            ∙ sym (append_assoc (parted gs) (raised (high * 32) bs) ((key, b) ∷ [])),
      )

  -- the open group joins the others
  pub closed_all : (gs : List (ℕ × List (ℕ × B))) (high : ℕ) (bs : List (ℕ × B)) → IsOpened gs high bs → parted (closed gs high bs) ≡ opened gs high bs
  closed_all gs high [] h = sym (nothing_more 32 (λ cs. cs) (parted gs))
  closed_all gs high (b ∷ bs) h = joined_append 32 (λ cs. cs) gs ((high, b ∷ bs) ∷ []) ∙ ap (λ xs. parted gs ++ xs) (nothing_more 32 (λ cs. cs) (raised (high * 32) (b ∷ bs)))

  pub closed_groups : (gs : List (ℕ × List (ℕ × B))) (high : ℕ) (bs : List (ℕ × B)) → IsOpened gs high bs → AreGroups (closed gs high bs)
  closed_groups gs high [] h = h.groups
  closed_groups gs high (b ∷ bs) h = (
    rises_is _ (rises_more high (b ∷ bs) gs (rises_of gs h.groups.0) h.behind),
    all_last IsGroup high (b ∷ bs) gs h.groups.1 (h.rises, h.digits, λ e. absurd (cc)),
  )

  closed_behind : (gs : List (ℕ × List (ℕ × B))) (high : ℕ) (bs : List (ℕ × B)) (key : ℕ) → IsOpened gs high bs → AreBelow key (raised (high * 32) bs) → key / 32 ≢ high → AreBelow (key / 32) (closed gs high bs)
  closed_behind gs high [] key h l other = subst (λ xs. AreBelow (key / 32) xs) (sym (h.begun refl)) tt
  closed_behind gs high (b ∷ bs) key h l other =
      let first : high * 32 + b.0 < key = l.0 in
      let more : high < key / 32 = omega (arith, first, other, whole_key key, mod_below key 32 (omega arith)) in
      below_last (key / 32) high (b ∷ bs) gs (below_weaker high (key / 32) gs (omega (arith, more)) h.behind) more

  -- the first branch of the next group
  pub begun_next : (gs : List (ℕ × List (ℕ × B))) (high : ℕ) (bs : List (ℕ × B)) (key : ℕ) (b : B) → IsOpened gs high bs → IsAscending (opened gs high bs ++ (key, b) ∷ []) → key / 32 ≢ high
      → IsOpened (closed gs high bs) (key / 32) ((key % 32, b) ∷ []) × (opened (closed gs high bs) (key / 32) ((key % 32, b) ∷ []) ≡ opened gs high bs ++ (key, b) ∷ [])
  begun_next gs high bs key b h up other = (
    record {
      groups = closed_groups gs high bs h;
      behind = closed_behind gs high bs key h (under gs high bs key b up) other;
      rises = tt;
      digits = (mod_below key 32 (omega arith), tt);
      begun = λ none. absurd (cc);
    },
    ap (λ xs. xs ++ raised (key / 32 * 32) ((key % 32, b) ∷ [])) (closed_all gs high bs h) ∙ ap (λ xs. opened gs high bs ++ xs) (one_raised (key / 32 * 32) (key % 32) key b (whole_key key)),
  )

  -- the same of a node that was made in turn
  pub pushed_items : (gs : List (ℕ × List (ℕ × B))) (high : ℕ) (bs ms view : List (ℕ × B)) (key : ℕ) (b : B) (x : ℕ × B) → IsOpened gs high bs → opened gs high bs ≡ view → IsAscending (view ++ (key, b) ∷ []) → key / 32 ≡ high → x ≡ (key % 32, b) → ms ≡ bs ++ x ∷ []
      → IsOpened gs high ms × (opened gs high ms ≡ view ++ (key, b) ∷ [])
  pushed_items gs high bs ms view key b x h v up same ex em =
      let made : ms ≡ bs ++ (key % 32, b) ∷ [] = em ∙ ap (λ y. bs ++ y ∷ []) ex in
      let done = pushed gs high bs key b h (subst (λ w. IsAscending (w ++ (key, b) ∷ [])) (sym v) up) same in
      (subst (IsOpened gs high) (sym made) done.0, ap (opened gs high) made ∙ done.1 ∙ ap (λ w. w ++ (key, b) ∷ []) v)

  pub next_items : (gs hs : List (ℕ × List (ℕ × B))) (high : ℕ) (bs none ms view : List (ℕ × B)) (key : ℕ) (b : B) (x : ℕ × B) → IsOpened gs high bs → opened gs high bs ≡ view → IsAscending (view ++ (key, b) ∷ []) → key / 32 ≢ high → x ≡ (key % 32, b) → hs ≡ closed gs high bs → none ≡ [] → ms ≡ none ++ x ∷ []
      → IsOpened hs (key / 32) ms × (opened hs (key / 32) ms ≡ view ++ (key, b) ∷ [])
  next_items gs hs high bs none ms view key b x h v up other ex eh en em =
      let made : ms ≡ (key % 32, b) ∷ [] = em ∙ ap (λ y. y ++ x ∷ []) en ∙ ap (λ y. y ∷ []) ex in
      let done = begun_next gs high bs key b h (subst (λ w. IsAscending (w ++ (key, b) ∷ [])) (sym v) up) other in (
        subst (λ ys. IsOpened ys (key / 32) ms) (sym eh) (subst (IsOpened (closed gs high bs) (key / 32)) (sym made) done.0),
        ap (λ ys. opened ys (key / 32) ms) eh ∙ ap (opened (closed gs high bs) (key / 32)) made ∙ done.1 ∙ ap (λ w. w ++ (key, b) ∷ []) v,
      )
