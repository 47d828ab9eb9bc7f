-- The keys that a commit changes are those that it changes at the ids that its edits name.
use Rattle.std.proofs.Common.{◌≡◌, ℕ, ◌+◌, ◌==◌, Bool, true, false, not, ◌&&◌, ◌||◌, if◌then◌else◌, List, [], ◌∷◌, Option, Some, None, refl, sym, subst, ap, ◌∙◌, arith}
use Rattle.std.specs.List.{list_any}
use Rattle.std.specs.List.Sorted.{IsStrictlySortedBy}
use Rattle.std.specs.Cmp.{unsigned_Decides}
use Rattle.std.specs.Cmp.Lexicographic.{pointwise, pointwise_decides}
use Rattle.std.proofs.lemmas.Bool.{eqb-true, eq-eqb, ne_eqb, and_right, or_parts, false≢true, true≢false}
use Rattle.ifc_base.specs.declared.value.Instance.{Instance}
use Rattle.ifc_base.specs.declared.key.Key.{Key}
use Rattle.ifc_base.specs.declared.key.Key.TheVariants.{Inst, Refs}
use Rattle.ifc_base.specs.declared.key.Role.{Role}
use Rattle.ifc_base.specs.KeyOrder.{role_rank}
use Rattle.audit_model.specs.Models.{IsModel, instance_at}
use Rattle.audit_model.specs.Keys.{changes, same_place}
use Rattle.audit_model.proofs.Frame.{same_place-refl}
use Rattle.schema_table.specs.Schema.{Schema}
use Rattle.schema_table.specs.Relationships.{refers}
use Rattle.inverse_index.specs.Index.{change_id, has_key, HasId, id_if_any, replaced}
use Rattle.inverse_index.specs.Changed.{AreChanged, changed_at, KeysAscend}
use Rattle.inverse_index.proofs.Passing.{standing, passes}
use Rattle.inverse_index.proofs.Refers.{stands_inst, stands_refs}
use Rattle.inverse_index.proofs.Models.{at_replaced, model_replaced}
use Rattle.inverse_index.proofs.Members.{has, same_members, ascends, member}

-- What one change says of a key.

abbrev apart : Bool → Bool → Bool
apart a b = a && not b || b && not a

two_tests : (a b : Bool) → (a && true && not b || false) ≡ (a && not b)
two_tests true true = refl
two_tests true false = refl
two_tests false b = refl

at_inst : (s : Schema) (i : ℕ) (o w : Option Instance) (j : ℕ) → changed_at s i o w (Inst j) ≡ (i == j && not (same_place o w))
unfolding changed_at
at_inst s i o w j = rw (stands_inst s o j, stands_inst s w j) (two_tests (i == j) (same_place o w))

at_refs : (s : Schema) (i : ℕ) (o w : Option Instance) (j : ℕ) (r : Role) → changed_at s i o w (Refs j r) ≡ apart (passes (refers s r j) o) (passes (refers s r j) w)
unfolding changed_at
at_refs s i o w j r = rw (and_right (i == j) (0 == (role_rank r + 1)) (ne_eqb 0 (role_rank r + 1) (λ e. absurd (omega (arith, e)))), stands_refs s o j r, stands_refs s w j r) refl

-- Tests of lists.

any_same : {X : Type 0} (f g : X → Bool) → ((x : X) → f x ≡ g x) → (xs : List X) → list_any f xs ≡ list_any g xs
any_same f g h [] = refl
any_same f g h (x ∷ xs) = ap (λ b. b || list_any f xs) (h x) ∙ ap (λ b. g x || b) (any_same f g h xs)

any_none : {X : Type 0} (f : X → Bool) → ((x : X) → f x ≡ false) → (xs : List X) → list_any f xs ≡ false
any_none f h [] = refl
any_none f h (x ∷ xs) = rw (h x) (any_none f h xs)

any_at : {X : Type 0} (id : X → ℕ) (g : ℕ → Bool) (j : ℕ) (es : List X) → list_any (λ e. id e == j && g (id e)) es ≡ (list_any (λ e. id e == j) es && g j)
any_at id g j [] = refl
any_at id g j (e ∷ es) =
    let F : Bool → Type 0 = λ b. (id e == j) ≡ b → (b && g (id e) || list_any (λ e. id e == j && g (id e)) es) ≡ ((b || list_any (λ e. id e == j) es) && g j) in
    let at : F (id e == j) = elim (id e == j) as F [
      | true ↦ λ t. ap (λ b. g (id e) || b) (any_at id g j es) ∙ ap (λ i. g i || list_any (λ e. id e == j) es && g j) (eqb-true (id e) j t) ∙ once (g j) (list_any (λ e. id e == j) es)
      | false ↦ λ t. any_at id g j es
    ] in
    at refl
  where
    once : (a b : Bool) → (a || b && a) ≡ a
    once true b = refl
    once false true = refl
    once false false = refl

hit : {X : Type 0} (id : X → ℕ) (f : ℕ → Bool) (j : ℕ) (es : List X) → list_any (λ e. id e == j) es ≡ true → list_any (λ e. f (id e)) es ≡ false → f j ≡ false
hit id f j [] h k = absurd (false≢true h)
hit id f j (e ∷ es) h k =
    let both : (f (id e) ≡ false) × (list_any (λ e. f (id e)) es ≡ false) = or_parts (f (id e)) (list_any (λ e. f (id e)) es) k in
    let F : Bool → Type 0 = λ b. (id e == j) ≡ b → (b || list_any (λ e. id e == j) es) ≡ true → f j ≡ false in
    let at : F (id e == j) = elim (id e == j) as F [ true ↦ λ t i. subst (λ n. f n ≡ false) (eqb-true (id e) j t) both.0 | false ↦ λ t i. hit id f j es i both.1 ] in
    at refl h

apart_same : (a : Bool) → apart a a ≡ false
apart_same true = refl
apart_same false = refl

not_apart : (a b : Bool) → apart a b ≡ false → a ≡ b
not_apart true true e = refl
not_apart true false e = absurd (false≢true (sym e))
not_apart false true e = absurd (false≢true (sym e))
not_apart false false e = refl

-- Two models that are the same but at the ids of some edits.

module _ {X : Type 0} (id : X → ℕ) (es : List X) (m n : List Instance) (before : IsModel m) (after : IsModel n) (else_same : (i : ℕ) → list_any (λ e. id e == i) es ≡ false → instance_at i n ≡ instance_at i m) where
  inst_changed : (j : ℕ) → list_any (λ e. id e == j && not (same_place (instance_at (id e) m) (instance_at (id e) n))) es ≡ not (same_place (instance_at j m) (instance_at j n))
  inst_changed j =
      let g : ℕ → Bool = λ i. not (same_place (instance_at i m) (instance_at i n)) in
      let F : Bool → Type 0 = λ b. list_any (λ e. id e == j) es ≡ b → (b && g j) ≡ g j in
      let at : F (list_any (λ e. id e == j) es) = elim (list_any (λ e. id e == j) es) as F [
        | true ↦ λ t. refl
        | false ↦ λ t. sym (rw (else_same j t, same_place-refl (instance_at j m)) refl)
      ] in
      any_at id g j es ∙ at refl

  refs_changed : (p : Instance → Bool) → list_any (λ e. apart (passes p (instance_at (id e) m)) (passes p (instance_at (id e) n))) es ≡ not (pointwise (λ (a b : ℕ). a == b) (standing p m) (standing p n))
  refs_changed p =
      let f : ℕ → Bool = λ i. apart (passes p (instance_at i m)) (passes p (instance_at i n)) in
      let one = pointwise_decides unsigned_Decides (standing p m) (standing p n) in
      let F : Bool → Type 0 = λ b. pointwise (λ (a b : ℕ). a == b) (standing p m) (standing p n) ≡ b → list_any (λ e. f (id e)) es ≡ not b in
      let at : F (pointwise (λ (a b : ℕ). a == b) (standing p m) (standing p n)) = elim (pointwise (λ (a b : ℕ). a == b) (standing p m) (standing p n)) as F [
        | true ↦ λ t.
            let same : standing p m ≡ standing p n = one.0 t in
            any_none (λ e. f (id e)) (λ e.
            let equal : passes p (instance_at (id e) m) ≡ passes p (instance_at (id e) n) = sym (member p m (id e) before) ∙ ap (has (id e)) same ∙ member p n (id e) after in
            ap (λ b. apart b (passes p (instance_at (id e) n))) equal ∙ apart_same (passes p (instance_at (id e) n))) es
        | false ↦ λ t.
            let G : Bool → Type 0 = λ b. list_any (λ e. f (id e)) es ≡ b → b ≡ true in
            let inner : G (list_any (λ e. f (id e)) es) = elim (list_any (λ e. f (id e)) es) as G [
              | true ↦ λ u. refl
              | false ↦ λ u.
                  let all : (i : ℕ) → has i (standing p m) ≡ has i (standing p n) = λ i.
                  let H : Bool → Type 0 = λ b. list_any (λ e. id e == i) es ≡ b → passes p (instance_at i m) ≡ passes p (instance_at i n) in
                  let there : H (list_any (λ e. id e == i) es) = elim (list_any (λ e. id e == i) es) as H [
                    | true ↦ λ v. not_apart (passes p (instance_at i m)) (passes p (instance_at i n)) (hit id f i es v u)
                    | false ↦ λ v. ap (passes p) (sym (else_same i v))
                  ] in
                  member p m i before ∙ there refl ∙ sym (member p n i after) in
                  absurd (true≢false (sym (one.1 (same_members (standing p m) (standing p n) (ascends p m before) (ascends p n after) all)) ∙ t))
            ] in
            inner refl
      ] in
      at refl

  pub changed_keys_are : (s : Schema) (k : Key) → list_any (λ e. changed_at s (id e) (instance_at (id e) m) (instance_at (id e) n) k) es ≡ changes s m n k
  unfolding changes
  changed_keys_are s (Inst j) = any_same _ _ (λ e. at_inst s (id e) (instance_at (id e) m) (instance_at (id e) n) j) es ∙ inst_changed j
  changed_keys_are s (Refs j r) = any_same _ _ (λ e. at_refs s (id e) (instance_at (id e) m) (instance_at (id e) n) j r) es ∙ refs_changed (refers s r j)

-- One change by itself.

only_one : (n i : ℕ) → list_any (λ (j : ℕ). j == i) (n ∷ []) ≡ false → (n == i) ≡ false
only_one n i e = (or_parts (n == i) false e).0

or_false : (a : Bool) → (a || false) ≡ a
or_false true = refl
or_false false = refl

pub are_changed : (s : Schema) (n : ℕ) (old new : Option Instance) (ks : List Key) → HasId n new → ((k : Key) → has_key ks k ≡ changed_at s n old new k) → AreChanged s n old new ks
are_changed s n old new ks id h m model was k =
    let after : IsModel (replaced n new m) = model_replaced n new m id model in
    let here : instance_at n (replaced n new m) ≡ new = at_replaced n new m id n ∙ ap (λ b. if b then new else instance_at n m) (eq-eqb n n refl) in
    let else_same : (i : ℕ) → list_any (λ (j : ℕ). j == i) (n ∷ []) ≡ false → instance_at i (replaced n new m) ≡ instance_at i m =
    λ i e. at_replaced n new m id i ∙ ap (λ b. if b then new else instance_at i m) (only_one n i e) in
    h k ∙ ap (λ o. changed_at s n o new k) (sym was) ∙ ap (λ o. changed_at s n (instance_at n m) o k) (sym here)
    ∙ sym (or_false (changed_at s n (instance_at n m) (instance_at n (replaced n new m)) k))
    ∙ changed_keys_are (λ (j : ℕ). j) (n ∷ []) m (replaced n new m) model after else_same s k

-- nothing changes where nothing stood and nothing stands
none_changed : (s : Schema) (n : ℕ) (k : Key) → false ≡ changed_at s n None None k
none_changed s n (Inst j) = sym (at_inst s n None None j ∙ and_false (n == j))
  where
    and_false : (a : Bool) → (a && false) ≡ false
    and_false true = refl
    and_false false = refl
none_changed s n (Refs j r) = sym (at_refs s n None None j r)

pub none_are_changed : (s : Schema) (old new : Option Instance) → id_if_any old new ≡ None → AreChanged s (change_id old new) old new []
none_are_changed s None None e = are_changed s 0 None None [] tt (none_changed s 0)
none_are_changed s (Some x) None e = absurd (cc)
none_are_changed s old (Some x) e = absurd (cc)

pub none_ascend : KeysAscend []
unfolding IsStrictlySortedBy
none_ascend = tt
