-- The keys of a need ascend; and an own property hides those of the same names.
use Rattle.std.proofs.Common.{◌≡◌, ℕ, ◌<◌, ◌≤◌, ◌&&◌, ◌||◌, Bool, true, false, not, cond, if◌then◌else◌, List, [], ◌∷◌, ◌++◌, arith, refl, ap, sym, subst, ◌∙◌, ◌⊎◌, inl, inr, ⊎_elim}
use Rattle.std.specs.Prelude.{◌==◌, nat_lt, filter, bytes_eq}
use Rattle.std.specs.List.{list_any}
use Rattle.std.proofs.lemmas.Slice.Eq.{bytes_eq-Decides}
use Rattle.std.proofs.lemmas.Bool.{cases_Bool, or_cases, or_parts, and_parts, ltb-true, ltb-false, lt-ltb, eqb-true, eqb-false, eq-eqb, false≢true}
use Rattle.std.proofs.lemmas.List.{append-nil}
use Rattle.std.proofs.lemmas.List.Elements.{filter-append}
use Rattle.ifc_base.specs.declared.value.Instance.{Instance}
use Rattle.ifc_base.specs.declared.key.Key.{Key}
use Rattle.ifc_base.specs.KeyOrder.{key_id, key_rank, key_eq}
use Rattle.schema_table.specs.Schema.{Schema}
use Rattle.audit_model.specs.declared.specification.Specification.{Specification}
use Rattle.audit_model.specs.declared.verdict.Pair.{Pair}
use Rattle.audit_model.specs.Ascending.{key_lt, insert_key, with_keys}
use Rattle.audit_model.specs.Properties.{Property, have_same_names, with_inherited}
use Rattle.audit_model.specs.Keys.{sight}
use Rattle.audit_model.specs.Needs.{need}
use Rattle.audit_model.specs.Verdicts.{assess_pair}
use Rattle.audit_model.specs.FacetLaws.{AllKeysAfter, AreKeysAscending, NeedsAscend, OwnHidesTypes}

-- The one key comes before the other.
abbrev Before : Key → Key → Type 0
Before k l = (key_id k < key_id l) ⊎ ((key_id k ≡ key_id l) × (key_rank k < key_rank l))

before : (k l : Key) → key_lt k l ≡ true → Before k l
before k l e =
    ⊎_elim
    (λ less. inl (ltb-true (key_id k) (key_id l) less))
    (λ tie. let both = and_parts (key_id k == key_id l) (nat_lt (key_rank k) (key_rank l)) tie in
    inr (eqb-true (key_id k) (key_id l) both.0, ltb-true (key_rank k) (key_rank l) both.1))
    (or_cases (nat_lt (key_id k) (key_id l)) ((key_id k == key_id l) && nat_lt (key_rank k) (key_rank l)) e)

is_before : (k l : Key) → Before k l → key_lt k l ≡ true
is_before k l (inl less) = rw (lt-ltb (key_id k) (key_id l) less) refl
is_before k l (inr tie) =
    let same : (key_id k == key_id l) ≡ true = eq-eqb (key_id k) (key_id l) tie.0 in
    let less : nat_lt (key_rank k) (key_rank l) ≡ true = lt-ltb (key_rank k) (key_rank l) tie.1 in
    ap (λ (b : Bool). nat_lt (key_id k) (key_id l) || (b && nat_lt (key_rank k) (key_rank l))) same
    ∙ ap (λ (b : Bool). nat_lt (key_id k) (key_id l) || b) less ∙ or_true (nat_lt (key_id k) (key_id l)) where
      or_true : (b : Bool) → (b || true) ≡ true
      or_true true = refl
      or_true false = refl

before_trans : (j k l : Key) → Before j k → Before k l → Before j l
before_trans j k l (inl a) (inl b) = inl (omega (arith, a, b))
before_trans j k l (inl a) (inr b) = inl (omega (arith, a, b.0))
before_trans j k l (inr a) (inl b) = inl (omega (arith, a.0, b))
before_trans j k l (inr a) (inr b) = inr (omega (arith, a.0, b.0), omega (arith, a.1, b.1))

lt_trans : (j k l : Key) → key_lt j k ≡ true → key_lt k l ≡ true → key_lt j l ≡ true
lt_trans j k l a b = is_before j l (before_trans j k l (before j k a) (before k l b))

-- of two numbers of one key, where the first pair isn't less and isn't the same
after_numbers : (i r j q : ℕ) → nat_lt i j ≡ false → ((i == j) && nat_lt r q) ≡ false → ((i == j) && (r == q)) ≡ false → (j < i) ⊎ ((j ≡ i) × (q < r))
after_numbers i r j q a b c =
    ⊎_elim
    (λ (same : (i == j) ≡ true).
    let less : nat_lt r q ≡ false = subst (λ (z : Bool). (z && nat_lt r q) ≡ false) same b in
    let other : (r == q) ≡ false = subst (λ (z : Bool). (z && (r == q)) ≡ false) same c in
    let least : q ≤ r = ltb-false r q less in
    let apart = eqb-false r q other in
    inr (sym (eqb-true i j same), omega arith))
    (λ (differ : (i == j) ≡ false).
    let least : j ≤ i = ltb-false i j a in
    let apart = eqb-false i j differ in
    inl (omega arith))
    (cases_Bool (i == j))

comes_after : (k l : Key) → key_lt k l ≡ false → key_eq k l ≡ false → key_lt l k ≡ true
comes_after k l less same =
    let apart = or_parts (nat_lt (key_id k) (key_id l)) ((key_id k == key_id l) && nat_lt (key_rank k) (key_rank l)) less in
    is_before l k (after_numbers (key_id k) (key_rank k) (key_id l) (key_rank l) apart.0 apart.1 same)

after_all : (j k : Key) (ks : List Key) → key_lt j k ≡ true → AllKeysAfter k ks → AllKeysAfter j ks
after_all j k [] e h = tt
after_all j k (l ∷ ls) e h = (lt_trans j k l e h.0, after_all j k ls e h.1)

after_inserted : (j k : Key) (ks : List Key) → key_lt j k ≡ true → AllKeysAfter j ks → AllKeysAfter j (insert_key k ks)
after_inserted j k [] e h = (e, tt)
after_inserted j k (x ∷ xs) e h =
    elim (key_lt k x) as (λ (a : Bool). AllKeysAfter j (cond a (k ∷ x ∷ xs) (cond (key_eq k x) (x ∷ xs) (x ∷ insert_key k xs)))) [
      | true ↦ (e, h)
      | false ↦ elim (key_eq k x) as (λ (b : Bool). AllKeysAfter j (cond b (x ∷ xs) (x ∷ insert_key k xs))) [
        | true ↦ h
        | false ↦ (h.0, after_inserted j k xs e h.1)
      ]
    ]

ascends_inserted : (k : Key) (ks : List Key) → AreKeysAscending ks → AreKeysAscending (insert_key k ks)
ascends_inserted k [] h = (tt, tt)
ascends_inserted k (x ∷ xs) h =
    let F : Bool → Type 0 = λ a. key_lt k x ≡ a → AreKeysAscending (cond a (k ∷ x ∷ xs) (cond (key_eq k x) (x ∷ xs) (x ∷ insert_key k xs))) in
    let at : F (key_lt k x) = elim (key_lt k x) as F [
      | true ↦ λ e. ((e, after_all k x xs e h.0), h)
      | false ↦ λ e.
          let G : Bool → Type 0 = λ b. key_eq k x ≡ b → AreKeysAscending (cond b (x ∷ xs) (x ∷ insert_key k xs)) in
          let inner : G (key_eq k x) = elim (key_eq k x) as G [
            | true ↦ λ d. h
            | false ↦ λ d. (after_inserted x k xs (comes_after k x e d) h.0, ascends_inserted k xs h.1)
          ] in inner refl
    ] in at refl

ascends_with : (ks ls : List Key) → AreKeysAscending ks → AreKeysAscending (with_keys ks ls)
ascends_with ks [] h = h
ascends_with ks (l ∷ ls) h = ascends_with (insert_key l ks) ls (ascends_inserted l ks h)

pub needs_ascend : NeedsAscend
unfolding need
needs_ascend s specs p m = ascends_with [] ((assess_pair s specs p).keys (sight s m)) tt

-- Properties of the same names.

names_are : (p q : Property) → have_same_names p q ≡ true → (p.set_name ≡ q.set_name) × (p.name ≡ q.name)
names_are p q e =
    let both = and_parts (bytes_eq p.set_name q.set_name) (bytes_eq p.name q.name) e in
    ((bytes_eq-Decides p.set_name q.set_name).0 both.0, (bytes_eq-Decides p.name q.name).0 both.1)

-- whoever has the names of p is told from others as p is
same_test : (p q x : Property) → have_same_names p q ≡ true → have_same_names q x ≡ have_same_names p x
same_test p q x e =
    let names = names_are p q e in
    ap (λ (n : List ℕ). bytes_eq n x.set_name && bytes_eq q.name x.name) (sym names.0) ∙ ap (λ (n : List ℕ). bytes_eq p.set_name x.set_name && bytes_eq n x.name) (sym names.1)

alike : (p q x : Property) → have_same_names p q ≡ true → have_same_names q x ≡ true → have_same_names p x ≡ true
alike p q x e f = sym (same_test p q x e) ∙ f

turned : (p q : Property) → have_same_names p q ≡ true → have_same_names q p ≡ true
turned p q e = same_test p q p e ∙ itself where
  itself : have_same_names p p ≡ true
  itself = ap (λ (b : Bool). b && bytes_eq p.name p.name) ((bytes_eq-Decides p.set_name p.set_name).1 refl) ∙ (bytes_eq-Decides p.name p.name).1 refl

any_alike : (p q : Property) (ps : List Property) → have_same_names p q ≡ true → list_any (have_same_names q) ps ≡ list_any (have_same_names p) ps
any_alike p q [] e = refl
any_alike p q (x ∷ xs) e = ap (λ (b : Bool). b || list_any (have_same_names q) xs) (same_test p q x e) ∙ ap (λ (b : Bool). have_same_names p x || b) (any_alike p q xs e)

abbrev left : List Property → Property → Bool
left own q = not (list_any (have_same_names q) own)

none_left : (own : List Property) (p : Property) (qs : List Property) → list_any (have_same_names p) own ≡ true → filter (have_same_names p) (filter (left own) qs) ≡ []
none_left own p [] h = refl
none_left own p (q ∷ qs) h =
    let F : Bool → Type 0 = λ a. left own q ≡ a → filter (have_same_names p) (cond a (q ∷ filter (left own) qs) (filter (left own) qs)) ≡ [] in
    let at : F (left own q) = elim (left own q) as F [
      | true ↦ λ kept.
          let G : Bool → Type 0 = λ b. have_same_names p q ≡ b → cond b (q ∷ filter (have_same_names p) (filter (left own) qs)) (filter (have_same_names p) (filter (left own) qs)) ≡ [] in
          let inner : G (have_same_names p q) = elim (have_same_names p q) as G [
            | true ↦ λ e. absurd (false≢true (sym (ap not (any_alike p q own e ∙ h)) ∙ kept))
            | false ↦ λ e. none_left own p qs h
          ] in inner refl
      | false ↦ λ gone. none_left own p qs h
    ] in at refl

pub own_hides_types : OwnHidesTypes
own_hides_types own inherited p h =
    filter-append (have_same_names p) own (filter (left own) inherited) ∙ ap (λ (ps : List Property). filter (have_same_names p) own ++ ps) (none_left own p inherited h)
    ∙ append-nil (filter (have_same_names p) own)
