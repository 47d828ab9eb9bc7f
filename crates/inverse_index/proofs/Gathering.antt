-- Lists of ids by keys, as they are gathered from the instances of a file.
use Rattle.std.proofs.Common.{◌≡◌, ℕ, ◌+◌, ◌<◌, Bool, true, false, cond, ◌||◌, if◌then◌else◌, List, [], ◌∷◌, ◌++◌, length, take, get_or, map, filter, Option, Some, None, refl, sym, subst, ap, ◌∙◌, arith, unwrap_or}
use Rattle.std.specs.BTreeMap as tree
use Rattle.std.specs.BTreeMap.{BTreeMap}
use Rattle.std.specs.Map.{lookup}
use Rattle.std.proofs.lemmas.List.Elements.{filter-append}
use Rattle.std.proofs.lemmas.List.{take_more, map-append}
use Rattle.ifc_base.specs.declared.value.Instance.{Instance}
use Rattle.ifc_base.specs.declared.key.Key.{Key}
use Rattle.ifc_base.specs.KeyOrder.{key_cmp, key_eq, key_ties, key_eq-Decides}
use Rattle.inverse_index.specs.Index.{has_key}
use Rattle.inverse_index.specs.Gathered.{gathered}
use Rattle.inverse_index.proofs.Passing.{standing}
use Rattle.inverse_index.proofs.Tests.{any_more}

chosen : (b : Bool) (w o : Option (List ℕ)) (d : List ℕ) → unwrap_or (cond b w o) d ≡ (if b then unwrap_or w d else unwrap_or o d)
chosen true w o d = refl
chosen false w o d = refl

pub updated : (m n : BTreeMap Key (List ℕ)) (key : Key) (w : Option (List ℕ)) → ((q : Key) → tree.get key_cmp n q ≡ cond (tree.is_at (key_cmp key) q) w (tree.get key_cmp m q)) → (k : Key) → gathered n k ≡ (if key_eq key k then unwrap_or w [] else gathered m k)
unfolding gathered
updated m n key w up k =
    ap (λ o. unwrap_or o []) (up k) ∙ ap (λ b. unwrap_or (cond b w (tree.get key_cmp m k)) []) (sym (key_ties key k)) ∙ chosen (key_eq key k) w (tree.get key_cmp m k) []

again : (b : Bool) (x y z : List ℕ) → (if b then x else (if b then y else z)) ≡ (if b then x else z)
again true x y z = refl
again false x y z = refl

-- taken out, and put back with one more
pub put_back : (m n u : Key → List ℕ) (key : Key) (xs : List ℕ) → ((k : Key) → n k ≡ (if key_eq key k then [] else m k)) → ((k : Key) → u k ≡ (if key_eq key k then xs else n k)) → (k : Key) → u k ≡ (if key_eq key k then xs else m k)
put_back m n u key xs f g k = g k ∙ ap (λ ys. if key_eq key k then xs else ys) (f k) ∙ again (key_eq key k) xs [] (m k)

-- One more key, which gets the id if it wasn't seen before.
module _ (keys : List Key) (i : ℕ) (j : Key) (at : i < length keys) (is : j ≡ get_or keys i j) (s : Key → Bool) (seen : (k : Key) → s k ≡ has_key (take i keys) k) where
  more : (k : Key) → has_key (take (i + 1) keys) k ≡ (has_key (take i keys) k || key_eq j k)
  more k = any_more (λ x. key_eq x k) keys i j at is

  seen_last : (a b : Bool) → cond b true a ≡ (a || b)
  seen_last true true = refl
  seen_last true false = refl
  seen_last false true = refl
  seen_last false false = refl

  pub seen_more : (t : Key → Bool) → ((k : Key) → t k ≡ cond (tree.is_at (key_cmp j) k) true (s k)) → (k : Key) → t k ≡ has_key (take (i + 1) keys) k
  seen_more t up k = up k ∙ ap (λ b. cond b true (s k)) (sym (key_ties j k)) ∙ ap (λ a. cond (key_eq j k) true a) (seen k) ∙ seen_last (has_key (take i keys) k) (key_eq j k) ∙ sym (more k)

  new_list : (f : List ℕ → List ℕ) (a b : Bool) (x y z : List ℕ) → y ≡ (if a then f x else x) → z ≡ (if b then f y else y) → (b ≡ true → a ≡ false) → z ≡ (if (a || b) then f x else x)
  new_list f true true x y z e g h = absurd (let t : true ≡ false = h refl in cc)
  new_list f true false x y z e g h = g ∙ e
  new_list f false true x y z e g h = g ∙ ap f e
  new_list f false false x y z e g h = g ∙ e

  old_list : (a b : Bool) (x y z : List ℕ) → z ≡ (if a then y else x) → (b ≡ true → a ≡ true) → z ≡ (if (a || b) then y else x)
  old_list true b x y z e h = e
  old_list false true x y z e h = absurd (let t : false ≡ true = h refl in cc)
  old_list false false x y z e h = e

  at_key : (u v : Key → List ℕ) (f : List ℕ → List ℕ) (k : Key) → v k ≡ (if key_eq j k then f (u j) else u k) → v k ≡ (if key_eq j k then f (u k) else u k)
  at_key u v f k e =
      let F : Bool → Type 0 = λ b. key_eq j k ≡ b → (if b then f (u j) else u k) ≡ (if b then f (u k) else u k) in
      let by : F (key_eq j k) = elim (key_eq j k) as F [ true ↦ λ t. ap (λ x. f (u x)) ((key_eq-Decides j k).0 t) | false ↦ λ t. refl ] in
      e ∙ by refl

  pub pushed_new : (f : List ℕ → List ℕ) (before now next : Key → List ℕ) → s j ≡ false → ((k : Key) → now k ≡ (if has_key (take i keys) k then f (before k) else before k)) → ((k : Key) → next k ≡ (if key_eq j k then f (now j) else now k)) → (k : Key) → next k ≡ (if has_key (take (i + 1) keys) k then f (before k) else before k)
  pushed_new f before now next new inv step k =
      new_list f (has_key (take i keys) k) (key_eq j k) (before k) (now k) (next k) (inv k) (at_key now next f k (step k))
      (λ b. subst (λ x. has_key (take i keys) x ≡ false) ((key_eq-Decides j k).0 b) (sym (seen j) ∙ new))
      ∙ ap (λ b. if b then f (before k) else before k) (sym (more k))

  pub pushed_old : (f : List ℕ → List ℕ) (before now : Key → List ℕ) → s j ≡ true → ((k : Key) → now k ≡ (if has_key (take i keys) k then f (before k) else before k)) → (k : Key) → now k ≡ (if has_key (take (i + 1) keys) k then f (before k) else before k)
  pushed_old f before now old inv k =
      old_list (has_key (take i keys) k) (key_eq j k) (before k) (f (before k)) (now k) (inv k)
      (λ b. subst (λ x. has_key (take i keys) x ≡ true) ((key_eq-Decides j k).0 b) (sym (seen j) ∙ old))
      ∙ ap (λ b. if b then f (before k) else before k) (sym (more k))

-- One more instance.
standing_one : (p : Instance → Bool) (x : Instance) → standing p (x ∷ []) ≡ (if p x then x.id ∷ [] else [])
standing_one p x = elim (p x) as (λ b. map (λ (y : Instance). y.id) (cond b (x ∷ []) []) ≡ (if b then x.id ∷ [] else [])) [ true ↦ refl | false ↦ refl ]

ended : (b : Bool) (xs : List ℕ) (n : ℕ) → (if b then xs ++ n ∷ [] else xs) ≡ xs ++ (if b then n ∷ [] else [])
ended true xs n = refl
ended false xs n = append_nil xs
  where
    append_nil : (ys : List ℕ) → ys ≡ ys ++ []
    append_nil [] = refl
    append_nil (y ∷ ys) = ap (λ zs. y ∷ zs) (append_nil ys)

pub standing_more : (p : Instance → Bool) (m : List Instance) (i : ℕ) (x : Instance) (b : Bool) (ys : List ℕ) → i < length m → x ≡ get_or m i x → b ≡ p x → ys ≡ (if b then standing p (take i m) ++ x.id ∷ [] else standing p (take i m)) → ys ≡ standing p (take (i + 1) m)
standing_more p m i x b ys at is same e =
    e ∙ ended b (standing p (take i m)) x.id
    ∙ ap (λ c. standing p (take i m) ++ (if c then x.id ∷ [] else [])) same
    ∙ ap (λ zs. standing p (take i m) ++ zs) (sym (standing_one p x))
    ∙ sym (map-append (λ (y : Instance). y.id) (filter p (take i m)) (filter p (x ∷ [])))
    ∙ ap (map (λ (y : Instance). y.id)) (sym (filter-append p (take i m) (x ∷ [])))
    ∙ ap (standing p) (ap (λ y. take i m ++ y ∷ []) is ∙ sym (take_more m i x at))

-- From the gathered lists to the tree.
pub none_left : (m : BTreeMap Key (List ℕ)) (k : Key) → length m.entries ≡ 0 → tree.get key_cmp m k ≡ None
none_left m k e = ap (λ es. lookup (tree.is_at (key_cmp k)) es) (nothing m.entries e)
  where
    nothing : {X : Type 0} (xs : List X) → length xs ≡ 0 → xs ≡ []
    nothing [] e = refl
    nothing (x ∷ xs) e = absurd (omega arith)

pub put_over : (m n : BTreeMap Key (List ℕ)) (key : Key) (ids : List ℕ) (t u target : Key → List ℕ) → tree.get key_cmp m key ≡ Some ids → ((q : Key) → tree.get key_cmp n q ≡ cond (tree.is_at (key_cmp key) q) None (tree.get key_cmp m q)) → ((k : Key) → u k ≡ (if key_eq key k then ids else t k)) → ((k : Key) → unwrap_or (tree.get key_cmp m k) (t k) ≡ target k) → (k : Key) → unwrap_or (tree.get key_cmp n k) (u k) ≡ target k
put_over m n key ids t u target here up put inv k =
    let F : Bool → Type 0 = λ b. key_eq key k ≡ b → unwrap_or (cond b None (tree.get key_cmp m k)) (if b then ids else t k) ≡ target k in
    let by : F (key_eq key k) = elim (key_eq key k) as F [
      | true ↦ λ e. subst (λ x. ids ≡ target x) ((key_eq-Decides key k).0 e) (ap (λ o. unwrap_or o (t key)) (sym here) ∙ inv key)
      | false ↦ λ e. inv k
    ] in
    ap (λ o. unwrap_or o (u k)) (up k ∙ ap (λ b. cond b None (tree.get key_cmp m k)) (sym (key_ties key k)))
    ∙ ap (λ xs. unwrap_or (cond (key_eq key k) None (tree.get key_cmp m k)) xs) (put k) ∙ by refl
