-- Listing the pairs of a node, branch by branch.
use Rattle.std.proofs.Common.{◌≡◌, ℕ, suc, zero, ◌+◌, ◌*◌, ◌^◌, ◌<◌, ◌≤◌, List, [], ◌∷◌, ◌++◌, length, get_or, take, map, Option, Some, refl, arith, ap, sym, subst, ◌∙◌, append_assoc}
use Rattle.std.specs.Borrow.{Bor}
use Rattle.std.specs.Arc.{arc_value}
use Rattle.std.specs.declared.sync.Arc.{Arc}
use Rattle.tree_map.specs.Pairs.{raised, joined, AreBelow, AllBranches}
use Rattle.tree_map.specs.Roots.{pairs_in, seen}

module _ {V : Type 0} where
  pub raised_append : (n : ℕ) (xs ys : List (ℕ × V)) → raised n (xs ++ ys) ≡ raised n xs ++ raised n ys
  raised_append n [] ys = refl
  raised_append n (x ∷ xs) ys = ap (λ zs. (n + x.0, x.1) ∷ zs) (raised_append n xs ys)

  pub raised_twice : (m n : ℕ) (xs : List (ℕ × V)) → raised m (raised n xs) ≡ raised (m + n) xs
  raised_twice m n [] = refl
  raised_twice m n (x ∷ xs) =
      let key : m + (n + x.0) ≡ (m + n) + x.0 = omega arith in
      ap (λ k. (k, x.1) ∷ raised m (raised n xs)) key ∙ ap (λ zs. ((m + n) + x.0, x.1) ∷ zs) (raised_twice m n xs)

  pub raised_none : (xs : List (ℕ × V)) → raised 0 xs ≡ xs
  raised_none [] = refl
  raised_none (x ∷ xs) = let key : 0 + x.0 ≡ x.0 = omega arith in ap (λ k. (k, x.1) ∷ raised 0 xs) key ∙ ap (λ zs. x ∷ zs) (raised_none xs)

  -- one branch more
  take_next : (i : ℕ) (bs : List (ℕ × V)) (b : ℕ × V) → i < length bs → b ≡ get_or bs i b → take (i + 1) bs ≡ take i bs ++ b ∷ []
  take_next i [] b l e = absurd (omega arith)
  take_next zero (x ∷ bs) b l e = ap (λ y. y ∷ []) (sym e)
  take_next (suc i) (x ∷ bs) b l e = ap (λ n. take n (x ∷ bs)) (let s : suc i + 1 ≡ suc (i + 1) = omega arith in s) ∙ ap (λ ys. x ∷ ys) (take_next i bs b (omega arith) e)

  below_at : (n : ℕ) (bs : List (ℕ × V)) (i : ℕ) (b : ℕ × V) → AreBelow n bs → i < length bs → (get_or bs i b).0 < n
  below_at n [] i b h l = absurd (omega arith)
  below_at n (x ∷ bs) zero b h l = h.0
  below_at n (x ∷ bs) (suc i) b h l = below_at n bs i b h.1 (omega arith)

  pub digit_at : (n : ℕ) (bs : List (ℕ × V)) (i : ℕ) (b : ℕ × V) → AreBelow n bs → i < length bs → b ≡ get_or bs i b → b.0 < n
  digit_at n bs i b h l e = subst (λ (x : ℕ × V). x.0 < n) (sym e) (below_at n bs i b h l)

  all_at : (P : V → Type 0) (bs : List (ℕ × V)) (i : ℕ) (b : ℕ × V) → AllBranches P bs → i < length bs → P (get_or bs i b).1
  all_at P [] i b h l = absurd (omega arith)
  all_at P (x ∷ bs) zero b h l = h.0
  all_at P (x ∷ bs) (suc i) b h l = all_at P bs i b h.1 (omega arith)

  pub whole_at : (P : V → Type 0) (bs : List (ℕ × V)) (i : ℕ) (b : ℕ × V) → AllBranches P bs → i < length bs → b ≡ get_or bs i b → P b.1
  whole_at P bs i b h l e = subst (λ (x : ℕ × V). P x.1) (sym e) (all_at P bs i b h l)

  take_whole : (i : ℕ) (bs : List (ℕ × V)) → length bs ≤ i → take i bs ≡ bs
  take_whole zero [] l = refl
  take_whole (suc i) [] l = refl
  take_whole zero (x ∷ bs) l = absurd (omega arith)
  take_whole (suc i) (x ∷ bs) l = ap (λ ys. x ∷ ys) (take_whole i bs (omega arith))

  pub took_all : (i : ℕ) (bs cs : List (ℕ × V)) → length bs ≤ i → bs ≡ cs → take i bs ≡ cs
  took_all i bs cs l e = take_whole i bs l ∙ e

  seen_push : (xs : List (ℕ × Bor V)) (y : ℕ × Bor V) → map seen (xs ++ y ∷ []) ≡ map seen xs ++ seen y ∷ []
  seen_push [] y = refl
  seen_push (x ∷ xs) y = ap (λ zs. seen x ∷ zs) (seen_push xs y)

  pub push_pair : (xs ys : List (ℕ × Bor V)) (y : ℕ × Bor V) (k : ℕ) (v : V) → ys ≡ xs ++ y ∷ [] → y.0 ≡ k → y.1.now ≡ v → map seen ys ≡ map seen xs ++ (k, v) ∷ []
  push_pair xs ys y k v e f g = ap (map seen) e ∙ seen_push xs y ∙ ap (λ n. map seen xs ++ (n, y.1.now) ∷ []) f ∙ ap (λ t. map seen xs ++ (k, t) ∷ []) g

  -- the lowest level lists one pair more
  pub list_pair : (from : ℕ) (before : List (ℕ × V)) (now next : List (ℕ × V)) (bs : List (ℕ × V)) (i : ℕ) (b : ℕ × V) → i < length bs → b ≡ get_or bs i b → now ≡ before ++ raised from (take i bs) → next ≡ now ++ (from + b.0, b.1) ∷ [] → next ≡ before ++ raised from (take (i + 1) bs)
  list_pair from before now next bs i b l e h k =
      k ∙ ap (λ xs. xs ++ (from + b.0, b.1) ∷ []) h ∙ append_assoc before (raised from (take i bs)) ((from + b.0, b.1) ∷ [])
      ∙ ap (λ xs. before ++ xs) (sym (raised_append from (take i bs) (b ∷ []))) ∙ ap (λ xs. before ++ raised from xs) (sym (take_next i bs b l e))

pub first_is : (from first d x w n : ℕ) → first ≡ from + d * 2 ^ x → d ≡ n → x ≡ w → first ≡ from + n * 2 ^ w
first_is from first d x w n f e k = f ∙ ap (λ y. from + y * 2 ^ x) e ∙ ap (λ y. from + n * 2 ^ y) k

module _ {B V : Type 0} (size : ℕ) (pairs : B → List (ℕ × V)) where
  pub joined_append : (bs cs : List (ℕ × B)) → joined size pairs (bs ++ cs) ≡ joined size pairs bs ++ joined size pairs cs
  joined_append [] cs = refl
  joined_append (b ∷ bs) cs = ap (λ xs. raised (b.0 * size) (pairs b.1) ++ xs) (joined_append bs cs) ∙ sym (append_assoc (raised (b.0 * size) (pairs b.1)) (joined size pairs bs) (joined size pairs cs))

  pub nothing_more : (xs : List (ℕ × V)) → xs ++ [] ≡ xs
  nothing_more [] = refl
  nothing_more (x ∷ xs) = ap (λ ys. x ∷ ys) (nothing_more xs)

  -- a level lists the pairs of one branch more
  pub list_branch : (from first : ℕ) (before : List (ℕ × V)) (now next : List (ℕ × V)) (bs : List (ℕ × B)) (i : ℕ) (b : ℕ × B) → i < length bs → b ≡ get_or bs i b → first ≡ from + b.0 * size → now ≡ before ++ raised from (joined size pairs (take i bs)) → next ≡ now ++ raised first (pairs b.1) → next ≡ before ++ raised from (joined size pairs (take (i + 1) bs))
  list_branch from first before now next bs i b l e f h k =
      let more : joined size pairs (take (i + 1) bs) ≡ joined size pairs (take i bs) ++ raised (b.0 * size) (pairs b.1) =
      ap (joined size pairs) (take_next i bs b l e) ∙ joined_append (take i bs) (b ∷ []) ∙ ap (λ xs. joined size pairs (take i bs) ++ xs) (nothing_more (raised (b.0 * size) (pairs b.1))) in
      let part : raised from (joined size pairs (take (i + 1) bs)) ≡ raised from (joined size pairs (take i bs)) ++ raised first (pairs b.1) =
      ap (raised from) more ∙ raised_append from (joined size pairs (take i bs)) (raised (b.0 * size) (pairs b.1))
      ∙ ap (λ xs. raised from (joined size pairs (take i bs)) ++ xs) (raised_twice from (b.0 * size) (pairs b.1) ∙ ap (λ n. raised n (pairs b.1)) (sym f)) in
      k ∙ ap (λ xs. xs ++ raised first (pairs b.1)) h ∙ append_assoc before (raised from (joined size pairs (take i bs))) (raised first (pairs b.1)) ∙ ap (λ xs. before ++ xs) (sym part)

  -- the topmost level lists all, from the key 0 on
  pub list_all : {Z : Type 0} (root : Option (Arc B Z)) (a : Arc B Z) (b : B) (before after : List (ℕ × Bor V)) → root ≡ Some a → b ≡ arc_value a → before ≡ [] → map seen after ≡ map seen before ++ raised 0 (pairs b) → map seen after ≡ pairs_in pairs root
  list_all root a b before after there held none done =
      done ∙ ap (λ xs. map seen xs ++ raised 0 (pairs b)) none ∙ raised_none (pairs b) ∙ ap pairs held ∙ ap (pairs_in pairs) (sym there)
