-- The keys of one list that are none of another's, collected one at a time.
use Rattle.std.proofs.Common.{◌≡◌, ℕ, ◌+◌, ◌<◌, Bool, true, false, cond, not, ◌&&◌, ◌||◌, List, [], ◌∷◌, ◌++◌, length, take, get_or, refl, sym, subst, ◌∙◌, ap, arith}
use Rattle.std.specs.BTreeMap.{is_at}
use Rattle.std.specs.BTreeSet.{BTreeSet, contains, Updates}
use Rattle.std.specs.List.{list_any}
use Rattle.std.proofs.lemmas.List.{append-nil}
use Rattle.std.proofs.lemmas.List.Folds.{list_any-append}
use Rattle.ifc_base.specs.declared.key.Key.{Key}
use Rattle.ifc_base.specs.KeyOrder.{key_cmp, key_eq, key_ties, key_eq-Decides}
use Rattle.inverse_index.specs.Index.{has_key}
use Rattle.inverse_index.proofs.Tests.{any_more, any_last}

or_none : (a : Bool) → (a || false) ≡ a
or_none true = refl
or_none false = refl

seen_more : (o t b s : Bool) → s ≡ (o || t) → cond b true s ≡ (o || (t || b))
seen_more true t true s e = refl
seen_more true t false s e = e
seen_more false true true s e = refl
seen_more false true false s e = e
seen_more false false true s e = refl
seen_more false false false s e = e

new_key : (t o b l : Bool) → l ≡ (t && not o) → (b ≡ true → o ≡ false) → (l || b) ≡ ((t || b) && not o)
new_key t true true l e h = absurd (cc (h refl))
new_key true false true l e h = ap (λ x. x || true) e
new_key false false true l e h = ap (λ x. x || true) e
new_key true o false l e h = ap (λ x. x || false) e ∙ or_none (not o)
new_key false o false l e h = ap (λ x. x || false) e

old_key : (t o b l : Bool) → l ≡ (t && not o) → (b ≡ true → (o || t) ≡ true) → l ≡ ((t || b) && not o)
old_key true o b l e h = e
old_key false true true l e h = e
old_key false false true l e h = absurd (cc (h refl))
old_key false o false l e h = e

module _ (others keys : List Key) (i : ℕ) (j : Key) (s : BTreeSet Key) (at : i < length keys) (is : j ≡ get_or keys i j) (seen : (k : Key) → contains key_cmp s k ≡ (has_key others k || has_key (take i keys) k)) where
  more : (k : Key) → has_key (take (i + 1) keys) k ≡ (has_key (take i keys) k || key_eq j k)
  more k = any_more (λ x. key_eq x k) keys i j at is

  pub seen_step : (t : BTreeSet Key) → Updates key_cmp s t j true → (k : Key) → contains key_cmp t k ≡ (has_key others k || has_key (take (i + 1) keys) k)
  seen_step t up k =
      up.0 k ∙ ap (λ b. cond b true (contains key_cmp s k)) (sym (key_ties j k))
      ∙ seen_more (has_key others k) (has_key (take i keys) k) (key_eq j k) (contains key_cmp s k) (seen k)
      ∙ ap (λ b. has_key others k || b) (sym (more k))

  first_none : (a b : Bool) → (a || b) ≡ false → a ≡ false
  first_none true b e = e
  first_none false b e = refl

  pub left_new : (l m : List Key) → ((k : Key) → has_key l k ≡ (has_key (take i keys) k && not (has_key others k))) → m ≡ l ++ j ∷ [] → contains key_cmp s j ≡ false → (k : Key) → has_key m k ≡ (has_key (take (i + 1) keys) k && not (has_key others k))
  left_new l m left e none k =
      ap (λ xs. has_key xs k) e ∙ any_last (λ x. key_eq x k) l j
      ∙ new_key (has_key (take i keys) k) (has_key others k) (key_eq j k) (has_key l k) (left k)
      (λ b. subst (λ x. has_key others x ≡ false) ((key_eq-Decides j k).0 b) (first_none (has_key others j) (has_key (take i keys) j) (sym (seen j) ∙ none)))
      ∙ ap (λ b. b && not (has_key others k)) (sym (more k))

  pub left_old : (l m : List Key) → ((k : Key) → has_key l k ≡ (has_key (take i keys) k && not (has_key others k))) → m ≡ l → contains key_cmp s j ≡ true → (k : Key) → has_key m k ≡ (has_key (take (i + 1) keys) k && not (has_key others k))
  left_old l m left e there k =
      ap (λ xs. has_key xs k) e
      ∙ old_key (has_key (take i keys) k) (has_key others k) (key_eq j k) (has_key l k) (left k)
      (λ b. subst (λ x. (has_key others x || has_key (take i keys) x) ≡ true) ((key_eq-Decides j k).0 b) (sym (seen j) ∙ there))
      ∙ ap (λ b. b && not (has_key others k)) (sym (more k))

pub appended : (ks ls ms : List Key) (k : Key) → ms ≡ ks ++ ls → has_key ms k ≡ (has_key ks k || has_key ls k)
appended ks ls ms k e = ap (λ xs. has_key xs k) e ∙ list_any-append (λ j. key_eq j k) ks ls

pub all_three : (o a g c x y z : Bool) → x ≡ (o || a) → y ≡ (x || g) → z ≡ (y || c) → z ≡ (o || (a || (g || c)))
all_three true a g c x y z e f h = h ∙ ap (λ b. b || c) (f ∙ ap (λ b. b || g) e)
all_three false true g c x y z e f h = h ∙ ap (λ b. b || c) (f ∙ ap (λ b. b || g) e)
all_three false false g c x y z e f h = h ∙ ap (λ b. b || c) (f ∙ ap (λ b. b || g) e)

-- The keys of a set.

key_eq-swap : (j k : Key) → key_eq k j ≡ key_eq j k
key_eq-swap j k =
    let F : Bool → Type 0 = λ b. key_eq k j ≡ b → b ≡ key_eq j k in
    let G : Bool → Type 0 = λ b. key_eq j k ≡ b → key_eq k j ≡ false → false ≡ b in
    let other : G (key_eq j k) = elim (key_eq j k) as G [ true ↦ λ f e. sym e ∙ (key_eq-Decides k j).1 (sym ((key_eq-Decides j k).0 f)) | false ↦ λ f e. refl ] in
    let at : F (key_eq k j) = elim (key_eq k j) as F [ true ↦ λ e. sym ((key_eq-Decides j k).1 (sym ((key_eq-Decides k j).0 e))) | false ↦ λ e. other refl e ] in
    at refl

among : (k : Key) (ks : List Key) → list_any (λ j. key_eq j k) ks ≡ list_any (is_at (key_cmp k)) ks
among k [] = refl
among k (j ∷ ks) = ap (λ b. b || list_any (λ j. key_eq j k) ks) (sym (key_eq-swap j k) ∙ key_ties k j) ∙ ap (λ b. is_at (key_cmp k) j || b) (among k ks)

pub has_keys : (s : BTreeSet Key) (ks : List Key) (k : Key) → ks ≡ s.keys → has_key ks k ≡ contains key_cmp s k
has_keys s ks k e = ap (λ ls. has_key ls k) e ∙ among k s.keys

pub none_over : (s : BTreeSet Key) (ks all : List Key) → ks ++ s.keys ≡ all → (0 < length s.keys → ⊥) → ks ≡ all
none_over s ks all e h = sym (append-nil ks) ∙ ap (λ zs. ks ++ zs) (sym (nothing s.keys h)) ∙ e
  where
    nothing : (xs : List Key) → (0 < length xs → ⊥) → xs ≡ []
    nothing [] k = refl
    nothing (x ∷ xs) k = absurd (k (omega arith))
