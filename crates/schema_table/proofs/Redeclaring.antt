-- Which attributes are redeclared.
use Rattle.std.proofs.Common.{◌≡◌, ◌≢◌, ℕ, zero, suc, ◌+◌, ◌<◌, ◌≤◌, Bool, true, false, cond, ◌||◌, ◌==◌, eqb, nat_lt, List, [], ◌∷◌, length, take, get_or, get_or-set_same, get_or-set_other, find, Option, Some, None, if◌then◌else◌, refl, ap, sym, ◌∙◌, subst, arith, ⊎_elim}
use Rattle.std.specs.List.{list_any, slice_get}
use Rattle.std.specs.Option.{option_and_then, option_map_or}
use Rattle.std.specs.Str.{bytes_eq}
use Rattle.std.proofs.Math.ListN.{set}
use Rattle.std.proofs.lemmas.Bool.Decides.{eqb_tells, nat_tests}
use Rattle.std.proofs.lemmas.Bool.{eqb-true}
use Rattle.std.proofs.lemmas.List.{length-set}
use Rattle.std.proofs.lemmas.List.Folds.{list_any_more}
use Rattle.std.proofs.lemmas.Option.{unwrap_or-slice_get, slice_get-get_or}
use Rattle.ifc_base.specs.declared.decl.EntityDecl.{EntityDecl}
use Rattle.schema_table.specs.Schema.{Schema, redeclares}
use Rattle.schema_table.specs.Climbing.{parents_of, entity_at, step, lift, chain}
use Rattle.schema_table.specs.Order.{has_number, IsParentsFirst}
use Rattle.schema_table.specs.Redeclared.{redeclares_any, redeclares_this, nearest, AreLinks}
use Rattle.schema_table.proofs.Positions.{there_is}
use Rattle.schema_table.proofs.Chains.{lift-zero, lift-suc, chain-suc, chain-none, chain_ended}
use Rattle.schema_table.proofs.Numbers.{step_number, super_is, IsWhole, none_up, all_up, all_up_step}

-- the entity of this number or a supertype redeclares the attribute
abbrev pub has_redeclared : Schema → List ℕ → Option ℕ → Bool
has_redeclared s attr o = redeclares (all_up s (entity_at s o)) attr

none_redeclared : (s : Schema) (attr : List ℕ) → has_redeclared s attr None ≡ false
none_redeclared s attr = ap (λ l. redeclares l attr) (none_up s (length s))

redeclared_step : (s : Schema) → IsWhole s → (attr : List ℕ) (x : ℕ) → x < length s → has_redeclared s attr (Some x) ≡ (redeclares_this s attr x || has_redeclared s attr (step (parents_of s) x))
redeclared_step s whole attr x h = by (slice_get s x) refl
  where
    by : (o : Option EntityDecl) → slice_get s x ≡ o → has_redeclared s attr (Some x) ≡ (redeclares_this s attr x || has_redeclared s attr (step (parents_of s) x))
    by None e = absurd (there_is s x h e)
    by (Some d) e =
        ap (λ o. redeclares (all_up s o) attr) e ∙ ap (λ l. redeclares l attr) (all_up_step s whole x d e)
        ∙ ap (λ o. list_any (bytes_eq attr) d.derived || redeclares (all_up s o) attr) (super_is s x d e)
        ∙ ap (λ o. option_map_or (λ (z : EntityDecl). list_any (bytes_eq attr) z.derived) o false || has_redeclared s attr (step (parents_of s) x)) (sym e)

chain_step : (s : Schema) → IsWhole s → (x : ℕ) → x < length s → chain (parents_of s) (length s) (Some x) ≡ x ∷ chain (parents_of s) (length s) (step (parents_of s) x)
chain_step s whole x h =
    sym (chain_ended (parents_of s) (length s) (suc (length s)) (Some x) (omega arith) (whole.ends x h)) ∙ chain-suc (parents_of s) (length s) x

nearest_is : (s : Schema) (o : Option ℕ) → find (redeclares_any s) (chain (parents_of s) (length s) o) ≡ option_and_then (nearest s) o
nearest_is s None = ap (find (redeclares_any s)) (chain-none (parents_of s) (length s))
nearest_is s (Some x) = refl

nearest_step : (s : Schema) → IsWhole s → (x : ℕ) → x < length s → nearest s x ≡ (if redeclares_any s x then Some x else option_and_then (nearest s) (step (parents_of s) x))
nearest_step s whole x h =
    ap (find (redeclares_any s)) (chain_step s whole x h) ∙ ap (cond (redeclares_any s x) (Some x)) (nearest_is s (step (parents_of s) x))

none_of_this : (s : Schema) (attr : List ℕ) (x : ℕ) → redeclares_any s x ≡ false → redeclares_this s attr x ≡ false
none_of_this s attr x h = by (slice_get s x) h
  where
    empty : (ns : List (List ℕ)) → nat_lt 0 (length ns) ≡ false → list_any (bytes_eq attr) ns ≡ false
    empty [] e = refl
    empty (n ∷ ns) e = absurd (let less : suc (length ns) ≤ 0 = grind (arith, nat_tests, e) in omega arith)

    by : (o : Option EntityDecl) → option_map_or (λ d. nat_lt 0 (length d.derived)) o false ≡ false → option_map_or (λ d. list_any (bytes_eq attr) d.derived) o false ≡ false
    by None e = refl
    by (Some d) e = empty d.derived e

-- what the nearest one says
pub record Nearest (s : Schema) (attr : List ℕ) (x : ℕ) : Type 0 where
  pub same : has_redeclared s attr (Some x) ≡ option_map_or (λ y. has_redeclared s attr (Some y)) (nearest s x) false
  pub inside : (y : ℕ) → nearest s x ≡ Some y → y < length s
  pub above : (y : ℕ) → nearest s x ≡ Some y → length (chain (parents_of s) (length s) (Some y)) ≤ length (chain (parents_of s) (length s) (Some x))

nearest_within : (s : Schema) → IsWhole s → (attr : List ℕ) (k x : ℕ) → x < length s → lift (parents_of s) k (Some x) ≡ None → Nearest s attr x
nearest_within s whole attr zero x h e = absurd (let n : Some x ≡ None = sym (lift-zero (parents_of s) (Some x)) ∙ e in cc)
nearest_within s whole attr (suc k) x h e = by (redeclares_any s x) refl (step (parents_of s) x) refl (λ p l f. nearest_within s whole attr k p l f)
  where
    by : (b : Bool) → redeclares_any s x ≡ b → (o : Option ℕ) → step (parents_of s) x ≡ o → ((p : ℕ) → p < length s → lift (parents_of s) k (Some p) ≡ None → Nearest s attr p) → Nearest s attr x
    by true f o g rest =
        let here : nearest s x ≡ Some x = nearest_step s whole x h ∙ ap (λ b. if b then Some x else option_and_then (nearest s) (step (parents_of s) x)) f in
        record {
          same = ap (λ p. option_map_or (λ y. has_redeclared s attr (Some y)) p false) (sym here);
          inside = λ y i. let n : x ≡ y = let q : Some x ≡ Some y = sym here ∙ i in cc in subst (λ z. z < length s) n h;
          above = λ y i. let n : x ≡ y = let q : Some x ≡ Some y = sym here ∙ i in cc in subst (λ z. length (chain (parents_of s) (length s) (Some z)) ≤ length (chain (parents_of s) (length s) (Some x))) n (omega arith);
        }
    by false f None g rest =
        let here : nearest s x ≡ None = nearest_step s whole x h ∙ ap (λ b. if b then Some x else option_and_then (nearest s) (step (parents_of s) x)) f ∙ ap (option_and_then (nearest s)) g in
        record {
          same = redeclared_step s whole attr x h ∙ ap (λ b. b || has_redeclared s attr (step (parents_of s) x)) (none_of_this s attr x f) ∙ ap (has_redeclared s attr) g ∙ none_redeclared s attr ∙ ap (λ p. option_map_or (λ y. has_redeclared s attr (Some y)) p false) (sym here);
          inside = λ y i. absurd (let q : None ≡ Some y = sym here ∙ i in cc);
          above = λ y i. absurd (let q : None ≡ Some y = sym here ∙ i in cc);
        }
    by false f (Some p) g rest =
        let up = rest p (step_number s x p g) (ap (lift (parents_of s) k) (sym g) ∙ sym (lift-suc (parents_of s) k (Some x)) ∙ e) in
        let here : nearest s x ≡ nearest s p = nearest_step s whole x h ∙ ap (λ b. if b then Some x else option_and_then (nearest s) (step (parents_of s) x)) f ∙ ap (option_and_then (nearest s)) g in
        let longer : length (chain (parents_of s) (length s) (Some x)) ≡ suc (length (chain (parents_of s) (length s) (Some p))) =
        ap length (chain_step s whole x h) ∙ ap (λ o. suc (length (chain (parents_of s) (length s) o))) g in
        record {
          same = redeclared_step s whole attr x h ∙ ap (λ b. b || has_redeclared s attr (step (parents_of s) x)) (none_of_this s attr x f) ∙ ap (has_redeclared s attr) g ∙ up.same ∙ ap (λ q. option_map_or (λ y. has_redeclared s attr (Some y)) q false) (sym here);
          inside = λ y i. up.inside y (sym here ∙ i);
          above = λ y i. let l = up.above y (sym here ∙ i) in omega arith;
        }

pub nearest_tells : (s : Schema) → IsWhole s → (attr : List ℕ) (x : ℕ) → x < length s → Nearest s attr x
nearest_tells s whole attr x h = nearest_within s whole attr (length s) x h (whole.ends x h)

-- The steps of the loops.

linked : (s : Schema) (links : List (Option ℕ)) → AreLinks s links → (o : Option ℕ) → ((p : ℕ) → o ≡ Some p → p < length s) → option_and_then (step links) o ≡ option_and_then (nearest s) o
linked s links are None h = refl
linked s links are (Some p) h = are p (h p refl)

pub redeclared_start : (s : Schema) → IsWhole s → (links : List (Option ℕ)) → AreLinks s links → (attr : List ℕ) (x : ℕ) → x < length s
    → (has_redeclared s attr (Some x) ≡ option_map_or (λ y. has_redeclared s attr (Some y)) (step links x) false) × ((y : ℕ) → step links x ≡ Some y → y < length s)
redeclared_start s whole links are attr x h =
    let t = nearest_tells s whole attr x h in
    (t.same ∙ ap (λ o. option_map_or (λ y. has_redeclared s attr (Some y)) o false) (sym (are x h)), λ y e. t.inside y (sym (are x h) ∙ e))

pub record GoesUp (s : Schema) (attr : List ℕ) (found : ℕ) (next : Option ℕ) (ps : List (Option ℕ)) : Type 0 where
  pub same : has_redeclared s attr (Some found) ≡ option_map_or (λ y. has_redeclared s attr (Some y)) next false
  pub inside : (y : ℕ) → next ≡ Some y → y < length s
  pub shorter : option_map_or (λ y. length (chain ps (length s) (Some y))) next 0 < length (chain ps (length s) (Some found))

goes_up : (s : Schema) → IsWhole s → (attr : List ℕ) (found : ℕ) → found < length s → redeclares_this s attr found ≡ false → GoesUp s attr found (option_and_then (nearest s) (step (parents_of s) found)) (parents_of s)
goes_up s whole attr found h none = by (step (parents_of s) found) refl
  where
    longer : length (chain (parents_of s) (length s) (Some found)) ≡ suc (length (chain (parents_of s) (length s) (step (parents_of s) found)))
    longer = ap length (chain_step s whole found h)

    same : has_redeclared s attr (Some found) ≡ has_redeclared s attr (step (parents_of s) found)
    same = redeclared_step s whole attr found h ∙ ap (λ b. b || has_redeclared s attr (step (parents_of s) found)) none

    less : (p : ℕ) → Nearest s attr p → step (parents_of s) found ≡ Some p → (o : Option ℕ) → nearest s p ≡ o → option_map_or (λ y. length (chain (parents_of s) (length s) (Some y))) o 0 < length (chain (parents_of s) (length s) (Some found))
    less p t e None f = omega (arith, longer)
    less p t e (Some y) f =
        let shorter : length (chain (parents_of s) (length s) (Some y)) ≤ length (chain (parents_of s) (length s) (Some p)) = t.above y f in
        let one : length (chain (parents_of s) (length s) (Some found)) ≡ suc (length (chain (parents_of s) (length s) (Some p))) = longer ∙ ap (λ o. suc (length (chain (parents_of s) (length s) o))) e in
        omega arith

    by : (o : Option ℕ) → step (parents_of s) found ≡ o → GoesUp s attr found (option_and_then (nearest s) o) (parents_of s)
    by None e = record {
      same = same ∙ ap (has_redeclared s attr) e ∙ none_redeclared s attr;
      inside = λ y f. absurd (cc);
      shorter = omega (arith, longer);
    }
    by (Some p) e =
        let t = nearest_tells s whole attr p (step_number s found p e) in
        record { same = same ∙ ap (has_redeclared s attr) e ∙ t.same; inside = t.inside; shorter = less p t e (nearest s p) refl }

pub redeclared_next : (s : Schema) → IsWhole s → (ps links : List (Option ℕ)) → ps ≡ parents_of s → AreLinks s links → (attr : List ℕ) (found : ℕ) → found < length s → redeclares_this s attr found ≡ false
    → GoesUp s attr found (option_and_then (step links) (step ps found)) ps
redeclared_next s whole ps links e are attr found h none =
    subst (λ qs. GoesUp s attr found (option_and_then (step links) (step qs found)) qs) (sym e)
    (subst (λ o. GoesUp s attr found o (parents_of s)) (sym (linked s links are (step (parents_of s) found) (step_number s found))) (goes_up s whole attr found h none))

pub this_redeclared : (s : Schema) → IsWhole s → (attr : List ℕ) (found : ℕ) → found < length s → redeclares_this s attr found ≡ true → has_redeclared s attr (Some found) ≡ true
this_redeclared s whole attr found h e = redeclared_step s whole attr found h ∙ ap (λ b. b || has_redeclared s attr (step (parents_of s) found)) e

step_at : (ps : List (Option ℕ)) (i : ℕ) → step ps i ≡ get_or ps i None
step_at ps i = unwrap_or-slice_get ps i None

-- one more link
pub links_more : (s : Schema) → IsWhole s → (ps : List (Option ℕ)) → ps ≡ parents_of s → (order : List ℕ) → IsParentsFirst ps order → (i number : ℕ) → i < length order → get_or order i 0 ≡ number
    → (old new : List (Option ℕ)) (link : Option ℕ) → length old ≡ length s → ((x : ℕ) → x < length s → has_number (take i order) x ≡ true → step old x ≡ nearest s x)
    → link ≡ (if redeclares_any s number then Some number else option_and_then (step old) (step ps number)) → new ≡ set old number link
    → (length new ≡ length s) × ((x : ℕ) → x < length s → has_number (take (i + 1) order) x ≡ true → step new x ≡ nearest s x)
links_more s whole ps e order first i number h at old new link long are is set_is = (
  ap length set_is ∙ length-set old number link ∙ long,
  λ x inside stands. ap (λ l. step l x) set_is ∙ step_at (set old number link) x
      ∙ ⊎_elim
      (λ (t : (eqb x number ≡ true) × (x ≡ number)).
      let within : number < length old = omega arith in
      ap (λ z. get_or (set old number link) z None) t.1 ∙ get_or-set_same old number link None within ∙ right x inside t.1 ∙ ap (nearest s) (sym t.1))
      (λ (t : (eqb x number ≡ false) × (x ≢ number)).
      get_or-set_other old number x link None t.1 ∙ sym (step_at old x) ∙ are x inside (before x t.1 stands))
      (eqb_tells x number),
)
  where
    there : slice_get order i ≡ Some number
    there = slice_get-get_or order i 0 h ∙ ap Some at

    parent : (p : ℕ) → step (parents_of s) number ≡ Some p → has_number (take i order) p ≡ true
    parent p f = (first i number there).1 p (ap (λ qs. step qs number) e ∙ f)

    up : (o : Option ℕ) → step (parents_of s) number ≡ o → option_and_then (step old) o ≡ option_and_then (nearest s) o
    up None f = refl
    up (Some p) f = are p (step_number s number p f) (parent p f)

    right : (x : ℕ) → x < length s → x ≡ number → link ≡ nearest s number
    right x inside same =
        let within : number < length s = omega arith in
        is ∙ ap (λ o. if redeclares_any s number then Some number else o) (ap (λ qs. option_and_then (step old) (step qs number)) e ∙ up (step (parents_of s) number) refl) ∙ sym (nearest_step s whole number within)

    or_cases : (a b : Bool) → (a || b) ≡ true → (b ≡ true → ⊥) → a ≡ true
    or_cases true b f g = refl
    or_cases false b f g = absurd (g f)

    before : (x : ℕ) → x ≢ number → has_number (take (i + 1) order) x ≡ true → has_number (take i order) x ≡ true
    before x ne stands =
        or_cases (has_number (take i order) x) (get_or order i 0 == x) (sym (list_any_more (λ y. y == x) order i 0 h) ∙ stands) (λ f. ne (sym (sym at ∙ eqb-true (get_or order i 0) x f)))
