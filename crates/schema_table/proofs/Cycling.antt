-- The first entity on a cycle.
use Rattle.std.proofs.Common.{◌≡◌, ℕ, suc, ◌+◌, ◌<◌, ◌≤◌, Bool, true, false, cond, not, nat_lt, List, [], ◌∷◌, length, get_or, position, find, Option, Some, None, refl, ap, sym, ◌∙◌, subst, arith}
use Rattle.std.specs.List.{list_any, slice_get, position_or_len}
use Rattle.std.specs.Option.{option_and_then}
use Rattle.std.proofs.lemmas.Bool.{eqb-true, eq-eqb}
use Rattle.std.proofs.lemmas.Option.{slice_get_within}
use Rattle.std.proofs.lemmas.List.Folds.{list_any_at, Any-from_list_any}
use Rattle.ifc_base.specs.declared.decl.EntityDecl.{EntityDecl}
use Rattle.schema_table.specs.Schema.{Schema}
use Rattle.schema_table.specs.Declarations.{is_own_ancestor, entity_fault}
use Rattle.schema_table.specs.Climbing.{parents_of, lift, lifts, is_number, AreMarks}
use Rattle.schema_table.proofs.Positions.{find_at_position}
use Rattle.schema_table.proofs.Chains.{cycle_from_far, far_from_cycle}
use Rattle.schema_table.proofs.Doubling.{lifts_at, length-lifts}
use Rattle.schema_table.proofs.Numbers.{parents_within, length-parents, AreSound, are_sound, on_cycle, off_cycle}

same_bool : (a b : Bool) → (a ≡ true → b ≡ true) → (b ≡ true → a ≡ true) → a ≡ b
same_bool true b f g = sym (f refl)
same_bool false true f g = g refl
same_bool false false f g = refl

is_number_true : (o : Option ℕ) (y : ℕ) → is_number o y ≡ true → o ≡ Some y
is_number_true None y h = absurd (cc)
is_number_true (Some k) y h = ap Some (sym (eqb-true y k h))

number_is : (o : Option ℕ) (y : ℕ) → o ≡ Some y → is_number o y ≡ true
number_is o y e = ap (λ p. is_number p y) e ∙ eq-eqb y y refl

-- what many steps reach is on a cycle, and the other way round
far_is : (s : Schema) (k : ℕ) → length s ≤ k → AreSound s → (y : ℕ) (d : EntityDecl) → slice_get s y ≡ Some d → list_any (λ o. is_number o y) (lifts (parents_of s) k) ≡ is_own_ancestor s d
far_is s k far sound y d e =
    same_bool (list_any (λ o. is_number o y) (lifts ps k)) (is_own_ancestor s d)
    (λ h.
    let some = Any-from_list_any (λ o. is_number o y) (lifts ps k) h in
    let inside : some.0 < length ps = subst (λ n. some.0 < n) (length-lifts ps k) some.2 in
    let there : lift ps k (Some some.0) ≡ Some y = sym (lifts_at ps k some.0 some.1 inside) ∙ some.3 ∙ is_number_true some.1 y some.4 in
    off_cycle s sound y d e (cycle_from_far ps (parents_within s) some.0 y k inside many there))
    (λ h.
    let here : y < length ps = rw length-parents (slice_get_within s y d e) in
    let from = far_from_cycle ps (parents_within s) y k here (on_cycle s sound y d e h) in
    let inside : from.0 < length (lifts ps k) = rw length-lifts from.1 in
    list_any_at (λ o. is_number o y) (lifts ps k) from.0 None inside (number_is (get_or (lifts ps k) from.0 None) y (lifts_at ps k from.0 None from.1 ∙ from.2)))
  where
    ps : List (Option ℕ)
    ps = parents_of s

    many : length (parents_of s) ≤ k
    many = rw length-parents far

same_first : {X : Type 0} (p : X → Bool) (bs : List Bool) (xs : List X) → length bs ≡ length xs → ((k : ℕ) (x : X) → slice_get xs k ≡ Some x → get_or bs k false ≡ p x)
    → position_or_len (λ b. b) bs ≡ position_or_len p xs
same_first p [] [] l h = refl
same_first p [] (x ∷ xs) l h = absurd (let e : 0 ≡ suc (length xs) = l in omega arith)
same_first p (b ∷ bs) [] l h = absurd (let e : suc (length bs) ≡ 0 = l in omega arith)
same_first p (b ∷ bs) (x ∷ xs) l h =
    let rest : position_or_len (λ c. c) bs ≡ position_or_len p xs = same_first p bs xs (let e : suc (length bs) ≡ suc (length xs) = l in omega arith) (λ k y e. h (suc k) y e) in
    let first : b ≡ p x = h 0 x refl in
    ap (λ c. cond (not c) (1 + position_or_len (λ e. e) bs) 0) first ∙ ap (λ n. cond (not (p x)) (1 + n) 0) rest

first_own_ancestor : (s : Schema) (k : ℕ) (marks : List Bool) → length s ≤ k → entity_fault s [] s ≡ None → AreMarks (lifts (parents_of s) k) marks → position (λ b. b) marks ≡ position (is_own_ancestor s) s
first_own_ancestor s k marks far names are =
    let sound : AreSound s = are_sound s names in
    let long : length marks ≡ length s = are.0 ∙ length-lifts (parents_of s) k ∙ length-parents s in
    let each : (y : ℕ) (d : EntityDecl) → slice_get s y ≡ Some d → get_or marks y false ≡ is_own_ancestor s d =
    λ y d e. are.1 y (rw (length-lifts, length-parents) (slice_get_within s y d e)) ∙ far_is s k far sound y d e in
    let first : position_or_len (λ b. b) marks ≡ position_or_len (is_own_ancestor s) s = same_first (is_own_ancestor s) marks s long each in
    ap (λ n. cond (nat_lt n (length marks)) (Some n) None) first ∙ ap (λ l. cond (nat_lt (position_or_len (is_own_ancestor s) s) l) (Some (position_or_len (is_own_ancestor s) s)) None) long

-- so the first marked one is the first that is its own ancestor
pub first_marked_is : (s : Schema) (k : ℕ) (marks : List Bool) → length s ≤ k → entity_fault s [] s ≡ None → AreMarks (lifts (parents_of s) k) marks → (o : Option ℕ)
    → o ≡ position (λ b. b) marks → option_and_then (slice_get s) o ≡ find (is_own_ancestor s) s
first_marked_is s k marks far names are o e =
    ap (option_and_then (slice_get s)) (e ∙ first_own_ancestor s k marks far names are) ∙ sym (find_at_position (is_own_ancestor s) s)
