-- Nodes that are built of groups: their pairs are those of the branches, and they are in order.
use Rattle.std.proofs.Common.{◌≡◌, ◌≢◌, ℕ, zero, suc, ◌+◌, ◌*◌, ◌^◌, ◌<◌, ◌≤◌, List, [], ◌∷◌, ◌++◌, map, refl, arith, ap, sym, subst, ◌∙◌}
use Rattle.tree_map.specs.declared.level.Level.{Level}
use Rattle.tree_map.specs.declared.lowest.Lowest.{Lowest}
use Rattle.tree_map.specs.Pairs.{raised, joined, IsAscending, AreBelow, AllBranches, IsNode, AreNodes}
use Rattle.tree_map.specs.Ordered.{AreAbove, Rises, rises_of, rises_is, times_le, pow_next}
use Rattle.tree_map.specs.Groups.{parted, IsGroup, AreGroups}
use Rattle.tree_map.specs.Top.{level_parts, lowest_parts}
use Rattle.tree_map.proofs.Listing.{raised_append, raised_twice, raised_none, joined_append, nothing_more}

-- ---- numbers alone
module _ {A B : Type 0} (f : ℕ × A → ℕ × B) (keeps : (n : ℕ × A) → (f n).0 ≡ n.0) where
  above_map : (x : ℕ) (ns : List (ℕ × A)) → AreAbove x (map f ns) → AreAbove x ns
  above_map x [] h = tt
  above_map x (n ∷ ns) h = (subst (λ k. x < k) (keeps n) h.0, above_map x ns h.1)

  rises_map : (ns : List (ℕ × A)) → Rises (map f ns) → Rises ns
  rises_map [] h = tt
  rises_map (n ∷ ns) h = (above_map n.0 ns (subst (λ k. AreAbove k (map f ns)) (keeps n) h.0), rises_map ns h.1)

  pub ascending_map : (ns : List (ℕ × A)) → IsAscending (map f ns) → IsAscending ns
  ascending_map ns h = rises_is ns (rises_map ns (rises_of (map f ns) h))

  pub all_map : (P : B → Type 0) (Q : A → Type 0) → ((n : ℕ × A) → P (f n).1 → Q n.1) → (ns : List (ℕ × A)) → AllBranches P (map f ns) → AllBranches Q ns
  all_map P Q g [] h = tt
  all_map P Q g (n ∷ ns) h = (g n h.0, all_map P Q g ns h.1)

  pub joined_map : {V : Type 0} (size : ℕ) (p : A → List (ℕ × V)) (q : B → List (ℕ × V)) → ((n : ℕ × A) → p n.1 ≡ q (f n).1) → (ns : List (ℕ × A)) → joined size p ns ≡ joined size q (map f ns)
  joined_map size p q same [] = refl
  joined_map size p q same (n ∷ ns) =
      ap (λ xs. raised (n.0 * size) xs ++ joined size p ns) (same n) ∙ ap (λ k. raised (k * size) (q (f n).1) ++ joined size p ns) (sym (keeps n))
      ∙ ap (λ xs. raised ((f n).0 * size) (q (f n).1) ++ xs) (joined_map size p q same ns)

-- ---- the branches of the groups
module _ {B V : Type 0} (size : ℕ) (pairs : B → List (ℕ × V)) where
  joined_raised : (n : ℕ) (bs : List (ℕ × B)) → joined size pairs (raised n bs) ≡ raised (n * size) (joined size pairs bs)
  joined_raised n [] = refl
  joined_raised n (b ∷ bs) =
      let key : (n + b.0) * size ≡ n * size + b.0 * size = omega arith in
      ap (λ k. raised k (pairs b.1) ++ joined size pairs (raised n bs)) key
      ∙ ap (λ xs. xs ++ joined size pairs (raised n bs)) (sym (raised_twice (n * size) (b.0 * size) (pairs b.1)))
      ∙ ap (λ xs. raised (n * size) (raised (b.0 * size) (pairs b.1)) ++ xs) (joined_raised n bs)
      ∙ sym (raised_append (n * size) (raised (b.0 * size) (pairs b.1)) (joined size pairs bs))

  pub joined_parted : (gs : List (ℕ × List (ℕ × B))) → joined size pairs (parted gs) ≡ joined (32 * size) (joined size pairs) gs
  joined_parted [] = refl
  joined_parted (g ∷ gs) =
      let key : g.0 * 32 * size ≡ g.0 * (32 * size) = omega arith in
      joined_append size pairs (raised (g.0 * 32) g.1) (parted gs)
      ∙ ap (λ xs. xs ++ joined size pairs (parted gs)) (joined_raised (g.0 * 32) g.1)
      ∙ ap (λ k. raised k (joined size pairs g.1) ++ joined size pairs (parted gs)) key
      ∙ ap (λ xs. raised (g.0 * (32 * size)) (joined size pairs g.1) ++ xs) (joined_parted gs)

  joined_some : (bs : List (ℕ × B)) → bs ≢ [] → AllBranches (λ b. pairs b ≢ []) bs → joined size pairs bs ≢ []
  joined_some [] h k = λ e. h refl
  joined_some (b ∷ bs) h k = there (b.0 * size) (pairs b.1) (joined size pairs bs) k.0
    where
      there : (n : ℕ) (ps qs : List (ℕ × V)) → ps ≢ [] → raised n ps ++ qs ≢ []
      there n [] qs h = λ e. h refl
      there n (p ∷ ps) qs h = λ e. absurd (cc)

module _ {B : Type 0} (P : B → Type 0) where
  all_raised : (n : ℕ) (bs : List (ℕ × B)) → AllBranches P (raised n bs) → AllBranches P bs
  all_raised n [] h = tt
  all_raised n (b ∷ bs) h = (h.0, all_raised n bs h.1)

  all_front : (bs cs : List (ℕ × B)) → AllBranches P (bs ++ cs) → AllBranches P bs × AllBranches P cs
  all_front [] cs h = (tt, h)
  all_front (b ∷ bs) cs h = let rest = all_front bs cs h.1 in ((h.0, rest.0), rest.1)

  pub all_parted : (gs : List (ℕ × List (ℕ × B))) → AllBranches P (parted gs) → AllBranches (AllBranches P) gs
  all_parted [] h = tt
  all_parted (g ∷ gs) h = let two = all_front (raised (g.0 * 32) g.1) (parted gs) h in (all_raised (g.0 * 32) g.1 two.0, all_parted gs two.1)

all_both : {B : Type 0} (P Q R : B → Type 0) → ((b : B) → P b → Q b → R b) → (bs : List (ℕ × B)) → AllBranches P bs → AllBranches Q bs → AllBranches R bs
all_both P Q R f [] h k = tt
all_both P Q R f (b ∷ bs) h k = (f b.1 h.0 k.0, all_both P Q R f bs h.1 k.1)

-- ---- a level above nodes
module _ {B V : Type 0} (w : ℕ) (pairs : B → List (ℕ × V)) (IsWhole : B → Type 0) (items : List (ℕ × V)) (below : List (ℕ × B)) (gs : List (ℕ × List (ℕ × B))) (nodes : List (ℕ × Level B)) (under : AreNodes IsWhole pairs below) (groups : AreGroups gs) (same : parted gs ≡ below) (made : map level_parts nodes ≡ gs) where
  level_pairs : Level B → List (ℕ × V)
  level_pairs t = joined (2 ^ w) pairs t.branches.items

  whole_groups : AllBranches (IsNode IsWhole pairs) gs
  whole_groups =
      all_both IsGroup (λ bs. AllBranches IsWhole bs × AllBranches (λ b. pairs b ≢ []) bs) (IsNode IsWhole pairs) (λ bs h k. (h.0, h.1, k.0, k.1)) gs groups.1
      (all_both (AllBranches IsWhole) (AllBranches (λ b. pairs b ≢ [])) (λ bs. AllBranches IsWhole bs × AllBranches (λ b. pairs b ≢ []) bs) (λ bs h k. (h, k)) gs
      (all_parted IsWhole gs (subst (AllBranches IsWhole) (sym same) under.1)) (all_parted (λ b. pairs b ≢ []) gs (subst (AllBranches (λ b. pairs b ≢ [])) (sym same) under.2)))

  some_groups : AllBranches (λ bs. joined (2 ^ w) pairs bs ≢ []) gs
  some_groups = all_both IsGroup (AllBranches (λ b. pairs b ≢ [])) (λ bs. joined (2 ^ w) pairs bs ≢ []) (λ bs h k. joined_some (2 ^ w) pairs bs h.2 k) gs groups.1 (all_parted (λ b. pairs b ≢ []) gs (subst (AllBranches (λ b. pairs b ≢ [])) (sym same) under.2))

  pub level_nodes : AreNodes (λ (t : Level B). IsNode IsWhole pairs t.branches.items) (λ (t : Level B). joined (2 ^ w) pairs t.branches.items) nodes
  level_nodes = (
    ascending_map level_parts (λ n. refl) nodes (subst IsAscending (sym made) groups.0),
    all_map level_parts (λ n. refl) (IsNode IsWhole pairs) (λ t. IsNode IsWhole pairs t.branches.items) (λ n h. h) nodes (subst (AllBranches (IsNode IsWhole pairs)) (sym made) whole_groups),
    all_map level_parts (λ n. refl) (λ bs. joined (2 ^ w) pairs bs ≢ []) (λ t. joined (2 ^ w) pairs t.branches.items ≢ []) (λ n h. h) nodes (subst (AllBranches (λ bs. joined (2 ^ w) pairs bs ≢ [])) (sym made) some_groups),
  )

  pub level_items : joined (2 ^ w) pairs below ≡ items → joined (2 ^ (w + 5)) (λ (t : Level B). joined (2 ^ w) pairs t.branches.items) nodes ≡ items
  level_items e =
      ap (λ n. joined n (λ (t : Level B). joined (2 ^ w) pairs t.branches.items) nodes) (pow_next w)
      ∙ joined_map level_parts (λ n. refl) (32 * 2 ^ w) (λ t. joined (2 ^ w) pairs t.branches.items) (joined (2 ^ w) pairs) (λ n. refl) nodes
      ∙ ap (joined (32 * 2 ^ w) (joined (2 ^ w) pairs)) made ∙ sym (joined_parted (2 ^ w) pairs gs) ∙ ap (joined (2 ^ w) pairs) same ∙ e

-- ---- the lowest level
module _ {V : Type 0} (items : List (ℕ × V)) (gs : List (ℕ × List (ℕ × V))) (nodes : List (ℕ × Lowest V)) (groups : AreGroups gs) (same : parted gs ≡ items) (made : map lowest_parts nodes ≡ gs) where
  pub lowest_nodes : AreNodes (λ (t : Lowest V). IsAscending t.level.branches.items × AreBelow 32 t.level.branches.items) (λ (t : Lowest V). t.level.branches.items) nodes
  lowest_nodes = (
    ascending_map lowest_parts (λ n. refl) nodes (subst IsAscending (sym made) groups.0),
    all_map lowest_parts (λ n. refl) IsGroup (λ t. IsAscending t.level.branches.items × AreBelow 32 t.level.branches.items) (λ n h. (h.0, h.1)) nodes (subst (AllBranches IsGroup) (sym made) groups.1),
    all_map lowest_parts (λ n. refl) IsGroup (λ t. t.level.branches.items ≢ []) (λ n h. h.2) nodes (subst (AllBranches IsGroup) (sym made) groups.1),
  )

  pub lowest_items : joined (2 ^ 5) (λ (t : Lowest V). t.level.branches.items) nodes ≡ items
  lowest_items = joined_map lowest_parts (λ n. refl) 32 (λ t. t.level.branches.items) (λ bs. bs) (λ n. refl) nodes ∙ ap parted made ∙ same

-- ---- the topmost node
module _ {B V : Type 0} (w : ℕ) (pairs : B → List (ℕ × V)) (IsWhole : B → Type 0) where
  below_left : (n : ℕ) (ps qs : List (ℕ × V)) → AreBelow n (ps ++ qs) → AreBelow n ps × AreBelow n qs
  below_left n [] qs h = (tt, h)
  below_left n (p ∷ ps) qs h = let rest = below_left n ps qs h.1 in ((h.0, rest.0), rest.1)

  is_first : (n : ℕ) (ps : List (ℕ × V)) → ps ≢ [] → AreBelow (2 ^ w) (raised (n * 2 ^ w) ps) → n < 1
  is_first n [] some h = absurd (some refl)
  is_first zero (p ∷ ps) some h = omega arith
  is_first (suc n) (p ∷ ps) some h =
      let more : 1 * 2 ^ w ≤ suc n * 2 ^ w = times_le (2 ^ w) 1 (suc n) (omega arith) in
      let less : suc n * 2 ^ w + p.0 < 2 ^ w = h.0 in
      absurd (omega (arith, more, less))

  all_first : (bs : List (ℕ × B)) → AllBranches (λ b. pairs b ≢ []) bs → AreBelow (2 ^ w) (joined (2 ^ w) pairs bs) → AreBelow 1 bs
  all_first [] some h = tt
  all_first (b ∷ bs) some h = let two = below_left (2 ^ w) (raised (b.0 * 2 ^ w) (pairs b.1)) (joined (2 ^ w) pairs bs) h in (is_first b.0 (pairs b.1) some.0 two.0, all_first bs some.1 two.1)

  above_end : (x k : ℕ) (t : B) (bs : List (ℕ × B)) → AreAbove x (bs ++ (k, t) ∷ []) → x < k
  above_end x k t [] h = h.0
  above_end x k t (b ∷ bs) h = above_end x k t bs h.1

  below_end : (n k : ℕ) (t : B) (bs : List (ℕ × B)) → AreBelow n (bs ++ (k, t) ∷ []) → k < n
  below_end n k t [] h = h.0
  below_end n k t (b ∷ bs) h = below_end n k t bs h.1

  all_end : (P : B → Type 0) (k : ℕ) (t : B) (bs : List (ℕ × B)) → AllBranches P (bs ++ (k, t) ∷ []) → P t
  all_end P k t [] h = h.0
  all_end P k t (b ∷ bs) h = all_end P k t bs h.1

  pub top_whole : (nodes front : List (ℕ × B)) (k : ℕ) (t u : B) → AreNodes IsWhole pairs nodes → nodes ≡ front ++ (k, t) ∷ [] → u ≡ t → IsWhole u
  top_whole nodes front k t u h e same = subst IsWhole (sym same) (all_end IsWhole k t front (subst (AllBranches IsWhole) e h.1))

  only_one : (front : List (ℕ × B)) (k : ℕ) (t : B) → Rises (front ++ (k, t) ∷ []) → AreBelow 1 (front ++ (k, t) ∷ []) → joined (2 ^ w) pairs (front ++ (k, t) ∷ []) ≡ pairs t
  only_one [] k t h b =
      let none : k * 2 ^ w ≡ 0 = (let z : k ≡ 0 = omega (arith, b.0) in let times : 0 * 2 ^ w ≡ 0 = omega arith in ap (λ n. n * 2 ^ w) z ∙ times) in
      nothing_more (2 ^ w) pairs (raised (k * 2 ^ w) (pairs t)) ∙ ap (λ n. raised n (pairs t)) none ∙ raised_none (pairs t)
  only_one (b ∷ bs) k t h l = absurd (omega (arith, above_end b.0 k t bs h.0, below_end 1 k t bs l.1))

  pub top_pairs : (nodes front : List (ℕ × B)) (k : ℕ) (t u : B) (items : List (ℕ × V)) → AreNodes IsWhole pairs nodes → joined (2 ^ w) pairs nodes ≡ items → AreBelow (2 ^ w) items → nodes ≡ front ++ (k, t) ∷ [] → u ≡ t → pairs u ≡ items
  top_pairs nodes front k t u items h made low e same =
      let first : AreBelow 1 nodes = all_first nodes h.2 (subst (AreBelow (2 ^ w)) (sym made) low) in
      ap pairs same ∙ sym (only_one front k t (subst Rises e (rises_of nodes h.0)) (subst (AreBelow 1) e first)) ∙ ap (joined (2 ^ w) pairs) (sym e) ∙ made
