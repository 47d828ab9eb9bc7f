-- Steps that are doubled, and what they reach.
use Rattle.std.proofs.Common.{◌≡◌, ◌≢◌, ℕ, suc, ◌+◌, ◌-◌, ◌^◌, ◌<◌, ◌≤◌, Bool, true, false, ◌||◌, eqb, List, [], ◌∷◌, map, take, length, get_or, get_or-set_same, get_or-set_other, Option, Some, None, refl, ap, sym, ◌∙◌, arith, ⊎_elim}
use Rattle.std.specs.List.{list_any, range_with_len}
use Rattle.std.specs.Option.{option_and_then, option_map_or, unwrap_or}
use Rattle.std.proofs.Math.ListN.{set}
use Rattle.std.proofs.Math.Nat.{two-pow-succ}
use Rattle.std.proofs.lemmas.Nat.{pow_pos}
use Rattle.std.proofs.lemmas.Bool.{cases_lt}
use Rattle.std.proofs.lemmas.Bool.Decides.{eqb_tells}
use Rattle.std.proofs.lemmas.Option.{unwrap_or-slice_get, slice_get_past}
use Rattle.std.proofs.lemmas.List.{length-set}
use Rattle.std.proofs.lemmas.List.Folds.{list_any_more}
use Rattle.std.proofs.lemmas.List.FromFn.{get_or-map-range_with_len, length-map-range_with_len, fill_by_all}
use Rattle.schema_table.specs.Climbing.{step, lift, lifts, is_number}
use Rattle.schema_table.proofs.Chains.{lift-zero, lift-suc, lift-none, lift-add}

step_at : (ps : List (Option ℕ)) (i : ℕ) → step ps i ≡ get_or ps i None
step_at ps i = unwrap_or-slice_get ps i None

pub lifts-one : (ps : List (Option ℕ)) → lifts ps 1 ≡ ps
lifts-one ps = sym (fill_by_all (λ i. lift ps 1 (Some i)) ps (length ps) None refl (λ k h. sym (step_at ps k) ∙ sym (lift-zero ps (step ps k)) ∙ sym (lift-suc ps 0 (Some k))))

pub length-lifts : (ps : List (Option ℕ)) (k : ℕ) → length (lifts ps k) ≡ length ps
length-lifts ps k = length-map-range_with_len (λ i. lift ps k (Some i)) 0 (length ps)

pub lifts_at : (ps : List (Option ℕ)) (k i : ℕ) (o : Option ℕ) → i < length ps → get_or (lifts ps k) i o ≡ lift ps k (Some i)
lifts_at ps k i o h = get_or-map-range_with_len (λ j. lift ps k (Some j)) 0 (length ps) i i o h (omega arith)

-- one step of many is as many
step_lifts : (ps : List (Option ℕ)) (k : ℕ) → 1 ≤ k → (o : Option ℕ) → option_and_then (step (lifts ps k)) o ≡ lift ps k o
step_lifts ps k h None = sym (lift-none ps k)
step_lifts ps k h (Some i) =
    step_at (lifts ps k) i
    ∙ ⊎_elim (λ less. lifts_at ps k i None less)
    (λ past.
    let gone : step ps i ≡ None = ap (λ o. unwrap_or o None) (slice_get_past ps i past) in
    let before : ℕ = k - 1 in
    let same : suc before ≡ k = omega arith in
    let none : get_or (lifts ps k) i None ≡ None = sym (step_at (lifts ps k) i) ∙ ap (λ o. unwrap_or o None) (slice_get_past (lifts ps k) i (omega (arith, length-lifts ps k))) in
    none ∙ sym (ap (λ n. lift ps n (Some i)) (sym same) ∙ lift-suc ps before (Some i) ∙ ap (lift ps before) gone ∙ lift-none ps before))
    (cases_lt i (length ps))

pub lifts-twice : (ps : List (Option ℕ)) (k : ℕ) → 1 ≤ k → map (λ o. option_and_then (step (lifts ps k)) o) (lifts ps k) ≡ lifts ps (k + k)
lifts-twice ps k h = each (range_with_len 0 (length ps))
  where
    each : (xs : List ℕ) → map (λ o. option_and_then (step (lifts ps k)) o) (map (λ i. lift ps k (Some i)) xs) ≡ map (λ i. lift ps (k + k) (Some i)) xs
    each [] = refl
    each (x ∷ xs) = ap (λ o. o ∷ map (λ p. option_and_then (step (lifts ps k)) p) (map (λ i. lift ps k (Some i)) xs)) (step_lifts ps k h (lift ps k (Some x)) ∙ sym (lift-add ps k k (Some x))) ∙ ap (λ l. lift ps (k + k) (Some x) ∷ l) (each xs)

pub doubled : (ps : List (Option ℕ)) (r : ℕ) (old new : List (Option ℕ)) → old ≡ lifts ps (2 ^ r) → new ≡ map (λ o. option_and_then (step old) o) old → new ≡ lifts ps (2 ^ (r + 1))
doubled ps r old new e f =
    let some : 1 ≤ 2 ^ r = omega (arith, pow_pos r) in
    let next : suc r ≡ r + 1 = omega arith in
    let twice : 2 ^ r + 2 ^ r ≡ 2 ^ (r + 1) = sym (two-pow-succ r) ∙ ap (λ n. 2 ^ n) next in
    f ∙ ap (λ l. map (λ o. option_and_then (step l) o) l) e ∙ lifts-twice ps (2 ^ r) some ∙ ap (lifts ps) twice

-- one more mark
pub marked : (far : List (Option ℕ)) (i : ℕ) (old new : List Bool) → i < length far → length old ≡ length far
    → ((y : ℕ) → y < length far → get_or old y false ≡ list_any (λ p. is_number p y) (take i far)) → new ≡ option_map_or (λ k. set old k true) (get_or far i None) old
    → (length new ≡ length far) × ((y : ℕ) → y < length far → get_or new y false ≡ list_any (λ p. is_number p y) (take (i + 1) far))
marked far i old new h l m f = (
  ap length f ∙ long (get_or far i None) ∙ l,
  λ y w. ap (λ xs. get_or xs y false) f ∙ here (get_or far i None) y w ∙ ap (λ b. b || is_number (get_or far i None) y) (m y w) ∙ sym (list_any_more (λ p. is_number p y) far i None h),
)
  where
    long : (o : Option ℕ) → length (option_map_or (λ k. set old k true) o old) ≡ length old
    long None = refl
    long (Some k) = length-set old k true

    or_false : (b : Bool) → b ≡ (b || false)
    or_false true = refl
    or_false false = refl

    or_true : (b : Bool) → true ≡ (b || true)
    or_true true = refl
    or_true false = refl

    here : (o : Option ℕ) (y : ℕ) → y < length far → get_or (option_map_or (λ k. set old k true) o old) y false ≡ (get_or old y false || is_number o y)
    here None y w = or_false (get_or old y false)
    here (Some k) y w =
        ⊎_elim
        (λ (t : (eqb y k ≡ true) × (y ≡ k)).
        let inside : k < length old = omega arith in
        ap (λ z. get_or (set old k true) z false) t.1 ∙ get_or-set_same old k true false inside ∙ or_true (get_or old y false) ∙ ap (λ b. get_or old y false || b) (sym t.0))
        (λ (t : (eqb y k ≡ false) × (y ≢ k)). get_or-set_other old k y true false t.1 ∙ or_false (get_or old y false) ∙ ap (λ b. get_or old y false || b) (sym t.0))
        (eqb_tells y k)
