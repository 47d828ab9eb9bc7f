-- A finite map from the list of its pairs.
use Rattle.std.proofs.Common.{◌≡◌, ℕ, ◌+◌, ◌-◌, ◌<◌, ◌≤◌, ◌^◌, nat_lt, Bool, true, false, cond, if◌then◌else◌, List, [], ◌∷◌, length, Option, Some, None, is_some, arith, refl, ap, sym, ◌∙◌, inl, inr}
use Rattle.std.proofs.lemmas.Bool.{ltb-true, ltb-false, false≢true}
use Rattle.std.specs.Cmp.{nat_cmp_total}
use Rattle.std.specs.Ordering.{nat_cmp, eq_by_cmp}
use Rattle.std.specs.FinMap.{FinMap, find, get, insert, remove, empty, len, contains_key, from_sorted, entries-from_sorted, get-from_sorted, get-empty, get-insert, get-remove, len-entries, len-insert, len-remove, same_map, nat_cmp-IsAntisymmetric}
use Rattle.tree_map.specs.Pairs.{IsAscending, AreBelow, Updates}
use Rattle.std.specs.Arc.{arc_value}
use Rattle.std.specs.declared.sync.Arc.{Arc}
use Rattle.tree_map.specs.declared.level.Level.{Level}
use Rattle.tree_map.specs.declared.lowest.Lowest.{Lowest}
use Rattle.tree_map.specs.Ordered.{AreAbove, Rises, rises_of, ordered_joined}
use Rattle.tree_map.specs.Roots.{pairs_in, IsWholeRoot}
use Rattle.tree_map.specs.Top.{Meaning, lowest, above, top}
use Rattle.tree_map.proofs.Joining.{tied, apart, same_or_not, missing_below}

abbrev AllFrom : {V : Type 0} → ℕ → List (ℕ × V) → Type 0
AllFrom x [] = Unit {0}
AllFrom x (p ∷ ps) = (x ≤ p.0) × AllFrom x ps

module _ {V : Type 0} where
  pub get_pairs : (ps : List (ℕ × V)) (q : ℕ) → IsAscending ps → get (from_sorted {R = nat_cmp} ps) q ≡ find nat_cmp q ps
  get_pairs ps q h = get-from_sorted nat_cmp ps q h

  pub inserted : (k : ℕ) (v : V) (ps qs : List (ℕ × V)) → IsAscending ps → IsAscending qs → Updates k (Some v) ps qs → from_sorted {R = nat_cmp} qs ≡ insert (from_sorted ps) k v
  inserted k v ps qs h g up =
      same_map nat_cmp_total nat_cmp-IsAntisymmetric (from_sorted qs) (insert (from_sorted ps) k v)
      (λ q. get_pairs qs q g ∙ up q ∙ ap (cond (eq_by_cmp nat_cmp q k) (Some v)) (sym (get_pairs ps q h)) ∙ sym (get-insert nat_cmp_total (from_sorted ps) k v q))

  pub removed : (k : ℕ) (ps qs : List (ℕ × V)) → IsAscending ps → IsAscending qs → Updates k None ps qs → from_sorted {R = nat_cmp} qs ≡ remove (from_sorted ps) k
  removed k ps qs h g up =
      same_map nat_cmp_total nat_cmp-IsAntisymmetric (from_sorted qs) (remove (from_sorted ps) k)
      (λ q. get_pairs qs q g ∙ up q ∙ ap (cond (eq_by_cmp nat_cmp q k) None) (sym (get_pairs ps q h)) ∙ sym (get-remove nat_cmp_total (from_sorted ps) k q))

  pub len_pairs : (ps : List (ℕ × V)) → IsAscending ps → len (from_sorted {R = nat_cmp} ps) ≡ length ps
  len_pairs ps h = len-entries (from_sorted ps) ∙ ap length (entries-from_sorted nat_cmp ps h)

  pub nothing : from_sorted {X = V} {R = nat_cmp} [] ≡ empty
  nothing = same_map nat_cmp_total nat_cmp-IsAntisymmetric (from_sorted []) empty (λ q. get_pairs [] q tt ∙ sym (get-empty nat_cmp q))

  -- no key of 2 ^ 40 or more is there
  pub too_great : (k n : ℕ) (ps : List (ℕ × V)) → n ≤ k → IsAscending ps → AreBelow n ps → get (from_sorted {R = nat_cmp} ps) k ≡ None
  too_great k n ps l h b = get_pairs ps k h ∙ missing_below k n ps l b

  -- to take out a key without a value changes nothing
  pub kept : (m : FinMap nat_cmp V) (k : ℕ) → get m k ≡ None → m ≡ remove m k
  kept m k none =
      same_map nat_cmp_total nat_cmp-IsAntisymmetric m (remove m k)
      (λ q. elim (same_or_not q k) [
        | inl same ↦ ap (get m) same ∙ none ∙ ap (λ t. cond t None (get m q)) (sym (tied q k same)) ∙ sym (get-remove nat_cmp_total m k q)
        | inr other ↦ ap (λ t. cond t None (get m q)) (sym (apart q k other)) ∙ sym (get-remove nat_cmp_total m k q)
      ])

  -- how many pairs there are after a change
  pub count_with : (m : FinMap nat_cmp V) (k : ℕ) (v : V) (qs : List (ℕ × V)) (n : ℕ) → IsAscending qs → from_sorted {R = nat_cmp} qs ≡ insert m k v → n ≡ (if contains_key m k then len m else len m + 1) → n ≡ length qs
  count_with m k v qs n h e f = f ∙ sym (len-insert nat_cmp_total m k v) ∙ ap len (sym e) ∙ len_pairs qs h

  pub count_without : (m : FinMap nat_cmp V) (k : ℕ) (ps qs : List (ℕ × V)) (n : ℕ) → IsAscending ps → IsAscending qs → from_sorted {R = nat_cmp} ps ≡ m → from_sorted {R = nat_cmp} qs ≡ remove m k → n ≡ length ps → is_some (get m k) ≡ true → n - 1 ≡ length qs
  count_without m k ps qs n hp hq ep eq f there =
      ap (λ x. x - 1) (f ∙ sym (len_pairs ps hp) ∙ ap len ep)
      ∙ ap (λ b. cond b (len m - 1) (len m)) (sym there) ∙ sym (len-remove nat_cmp_total m k) ∙ ap len (sym eq) ∙ len_pairs qs hq

  -- keys that rise from a number on, below another, are no more than the numbers between
  few : (low n : ℕ) (ps : List (ℕ × V)) → AllFrom low ps → Rises ps → AreBelow n ps → low ≤ n → low + length ps ≤ n
  few low n [] f h b l = omega (arith, l)
  few low n (p ∷ ps) f h b l =
      let rest : p.0 + 1 + length ps ≤ n = few (p.0 + 1) n ps (from_above p.0 ps h.0) h.1 b.1 (omega (arith, b.0)) in
      omega (arith, f.0, rest)
    where
      from_above : (x : ℕ) (qs : List (ℕ × V)) → AreAbove x qs → AllFrom (x + 1) qs
      from_above x [] h = tt
      from_above x (q ∷ qs) h = (omega (arith, h.0), from_above x qs h.1)

  all_from : (ps : List (ℕ × V)) → AllFrom 0 ps
  all_from [] = tt
  all_from (p ∷ ps) = (omega arith, all_from ps)

  pub few_pairs : (n : ℕ) (ps : List (ℕ × V)) → IsAscending ps → AreBelow n ps → length ps ≤ n
  few_pairs n ps h b = let l : 0 + length ps ≤ n = few 0 n ps (all_from ps) (rises_of ps h) b (omega arith) in omega arith

  -- a key with a value is below the others' bound, and then there is a pair
  pub within : (k n : ℕ) (v : V) (ps : List (ℕ × V)) (m : FinMap nat_cmp V) → IsAscending ps → AreBelow n ps → from_sorted {R = nat_cmp} ps ≡ m → Some v ≡ get m k → k < n
  within k n v ps m h b e there =
      let F : Bool → Type 0 = λ t. nat_lt k n ≡ t → k < n in
      let at : F (nat_lt k n) = elim (nat_lt k n) as F [
        | true ↦ λ t. ltb-true k n t
        | false ↦ λ t. absurd (false≢true (ap is_some (sym (too_great k n ps (ltb-false k n t) h b) ∙ ap (λ x. get x k) e ∙ sym there)))
      ] in
      at refl

  pub some_pair : (k : ℕ) (v : V) (ps : List (ℕ × V)) (m : FinMap nat_cmp V) (n : ℕ) → IsAscending ps → from_sorted {R = nat_cmp} ps ≡ m → Some v ≡ get m k → n ≡ length ps → 1 ≤ n
  some_pair k v [] m n h e there f = absurd (false≢true (ap is_some (sym (get_pairs [] k h) ∙ ap (λ x. get x k) e ∙ sym there)))
  some_pair k v (p ∷ ps) m n h e there f = omega (arith, f)

-- ---- the topmost level
abbrev IsLawful : {B V : Type 0} → Meaning B V → Type 0
IsLawful {B} m = (b : B) → m.IsWhole b → IsAscending (m.pairs b) × AreBelow (2 ^ m.width) (m.pairs b)

lowest_law : {V : Type 0} → IsLawful (lowest {V = V})
lowest_law b h = h

above_law : {B V : Type 0} (m : Meaning B V) → IsLawful m → IsLawful (above m)
above_law m law level h = ordered_joined m.width m.pairs m.IsWhole law level.branches.items h

top_law : {V : Type 0} → IsLawful (top {V = V})
top_law {V} = above_law (above (above (above (above (above (above (lowest {V = V}))))))) (above_law (above (above (above (above (above (lowest {V = V})))))) (above_law (above (above (above (above (lowest {V = V}))))) (above_law (above (above (above (lowest {V = V})))) (above_law (above (above (lowest {V = V}))) (above_law (above (lowest {V = V})) (above_law (lowest {V = V}) lowest_law))))))

pub root_ordered : {V Z : Type 0} (root : Option (Arc (Level (Level (Level (Level (Level (Level (Level (Lowest V)))))))) Z)) → IsWholeRoot top.IsWhole root → IsAscending (pairs_in top.pairs root) × AreBelow (2 ^ 40) (pairs_in top.pairs root)
root_ordered None h = (tt, tt)
root_ordered (Some root) h = top_law (arc_value root) h
