-- The refusal for a missing reference names the least pair.
use Rattle.std.proofs.Common.{◌≡◌, ℕ, ◌≤◌, ◌<◌, ◌==◌, min, Bool, true, false, not, ◌&&◌, ◌||◌, cond, ◌⊎◌, inl, inr, List, [], ◌∷◌, filter, Option, Some, None, arith, refl, sym, ap, subst, ◌∙◌}
use Rattle.std.specs.List.{list_any}
use Rattle.std.specs.Option.{option_or, option_map, option_map_or}
use Rattle.std.proofs.lemmas.Bool.{and_parts, and_from, eqb-true, eq-eqb, cases_lt, not-true, false≢true}
use Rattle.ifc_base.specs.declared.value.Instance.{Instance}
use Rattle.audit_model.specs.declared.commit.CommitRefusal.{CommitRefusal}
use Rattle.audit_model.specs.declared.commit.CommitRefusal.TheVariants.{RevisionsFull, Edit as EditRefused, Dangling}
use Rattle.audit_model.specs.Models.{IsModel, AllAbove, instance_at, is_present}
use Rattle.audit_model.specs.Judging.{references, is_dangling, least, newly_missing, dangling_from, dangling}
use Rattle.audit_model.specs.Laws.{DanglesNewly, TellsDangling, DanglingIsLeast}
use Rattle.audit_model.proofs.Tests.{Each, or_true, with_one, without_one}
use Rattle.audit_model.proofs.Tallies.{at_own}

abbrev has : ℕ → List ℕ → Bool
has t ids = list_any (λ id. id == t) ids

either : (a b : Bool) → (a || b) ≡ true → (a ≡ true) ⊎ (b ≡ true)
either true b e = inl refl
either false b e = inr e

-- The least of a list.

abbrev TellsLeast : List ℕ → Option ℕ → Type 0
TellsLeast ids None = (t : ℕ) → has t ids ≡ false
TellsLeast ids (Some k) = (has k ids ≡ true) × ((t : ℕ) → has t ids ≡ true → k ≤ t)

least_one : (i : ℕ) (ids : List ℕ) → TellsLeast ids None → TellsLeast (i ∷ ids) (Some i)
least_one i ids none = (
  ap (λ (b : Bool). b || has i ids) (eq-eqb i i refl),
  λ t e. elim (either (i == t) (has t ids) e) [
    | inl same ↦ let s : i ≡ t = eqb-true i t same in omega (arith, s)
    | inr other ↦ absurd (false≢true (sym (none t) ∙ other))
  ],
)

least_more : (i k : ℕ) (ids : List ℕ) → TellsLeast ids (Some k) → TellsLeast (i ∷ ids) (Some (min i k))
least_more i k ids l =
    elim (cases_lt i k) [
      | inl lt ↦ let is : min i k ≡ i = omega (arith, lt) in subst (λ (x : ℕ). TellsLeast (i ∷ ids) (Some x)) (sym is) (
        ap (λ (b : Bool). b || has i ids) (eq-eqb i i refl),
        λ t e. elim (either (i == t) (has t ids) e) [
          | inl same ↦ let s : i ≡ t = eqb-true i t same in omega (arith, s)
          | inr other ↦ let le : k ≤ t = l.1 t other in omega (arith, le, lt)
        ],
      )
      | inr le ↦ let is : min i k ≡ k = omega (arith, le) in subst (λ (x : ℕ). TellsLeast (i ∷ ids) (Some x)) (sym is) (
        ap (λ (b : Bool). (i == k) || b) l.0 ∙ or_true (i == k),
        λ t e. elim (either (i == t) (has t ids) e) [
          | inl same ↦ let s : i ≡ t = eqb-true i t same in omega (arith, s, le)
          | inr other ↦ l.1 t other
        ],
      )
    ]

least_tells : (ids : List ℕ) → TellsLeast ids (least ids)
least_tells [] = λ t. refl
least_tells (i ∷ ids) =
    let F : Option ℕ → Type 0 = λ o. TellsLeast ids o → TellsLeast (i ∷ ids) (Some (option_map_or (min i) o i)) in
    let at : F (least ids) = elim (least ids) as F [ None ↦ least_one i ids | Some k ↦ least_more i k ids ] in
    at (least_tells ids)

-- What a filter keeps.
kept : (p : ℕ → Bool) (t : ℕ) (ids : List ℕ) → has t (filter p ids) ≡ (has t ids && p t)
kept p t [] = refl
kept p t (i ∷ ids) =
    let F : Bool → Type 0 = λ b. p i ≡ b → has t (cond b (i ∷ filter p ids) (filter p ids)) ≡ (((i == t) || has t ids) && p t) in
    let at : F (p i) = elim (p i) as F [
      | true ↦ λ e. ap (λ (b : Bool). (i == t) || b) (kept p t ids) ∙ with_one (i == t) (has t ids) (p t) (λ s. subst (λ (x : ℕ). p x ≡ true) (eqb-true i t s) e)
      | false ↦ λ e. kept p t ids ∙ without_one (i == t) (has t ids) (p t) (λ s. subst (λ (x : ℕ). p x ≡ false) (eqb-true i t s) e)
    ] in
    at refl

-- One instance.

abbrev is_newly_missing : List Instance → List Instance → Instance → ℕ → Bool
is_newly_missing m n x to = not (is_present to n) && not (is_dangling m x.id to)

abbrev missing_ids : List Instance → List Instance → Instance → List ℕ
missing_ids m n x = filter (is_newly_missing m n x) (references x)

held_at : (n : List Instance) (x : Instance) (t : ℕ) → instance_at x.id n ≡ Some x → is_dangling n x.id t ≡ (has t (references x) && not (is_present t n))
held_at n x t at = ap (λ (o : Option Instance). option_map_or (λ y. has t (references y)) o false && not (is_present t n)) at

newly_from : (m n : List Instance) (x : Instance) (t : ℕ) → instance_at x.id n ≡ Some x → DanglesNewly m n x.id t → has t (missing_ids m n x) ≡ true
newly_from m n x t at d =
    let both : (has t (references x) ≡ true) × (not (is_present t n) ≡ true) = and_parts _ _ (sym (held_at n x t at) ∙ d.0) in
    kept (is_newly_missing m n x) t (references x) ∙ and_from _ _ both.0 (and_from _ _ both.1 (ap not d.1))

newly_to : (m n : List Instance) (x : Instance) (t : ℕ) → instance_at x.id n ≡ Some x → has t (missing_ids m n x) ≡ true → DanglesNewly m n x.id t
newly_to m n x t at e =
    let one : (has t (references x) ≡ true) × (is_newly_missing m n x t ≡ true) = and_parts _ _ (sym (kept (is_newly_missing m n x) t (references x)) ∙ e) in
    let two : (not (is_present t n) ≡ true) × (not (is_dangling m x.id t) ≡ true) = and_parts _ _ one.1 in
    (held_at n x t at ∙ and_from _ _ one.0 two.0, not-true _ two.1)

-- All instances of a list.

abbrev TellsFrom : List Instance → List Instance → List Instance → Option CommitRefusal → Type 0
TellsFrom m n xs None = (f t : ℕ) → is_present f xs ≡ true → DanglesNewly m n f t → ⊥
TellsFrom m n xs (Some (Dangling from to)) = DanglesNewly m n from to × ((f t : ℕ) → is_present f xs ≡ true → DanglesNewly m n f t → (from < f) ⊎ ((from ≡ f) × (to ≤ t)))
TellsFrom m n xs (Some RevisionsFull) = ⊥
TellsFrom m n xs (Some (EditRefused number fault)) = ⊥

above_present : (i f : ℕ) (xs : List Instance) → AllAbove i xs → is_present f xs ≡ true → i < f
above_present i f [] h e = absurd (false≢true e)
above_present i f (x ∷ xs) h e =
    elim (either (x.id == f) (is_present f xs) e) [
      | inl same ↦ let s : x.id ≡ f = eqb-true _ _ same in let l : i < x.id = h.0 in omega (arith, s, l)
      | inr other ↦ above_present i f xs h.1 other
    ]

here_found : (m n : List Instance) (x : Instance) (xs : List Instance) (to : ℕ) → instance_at x.id n ≡ Some x → AllAbove x.id xs → TellsLeast (missing_ids m n x) (Some to) → TellsFrom m n (x ∷ xs) (Some (Dangling x.id to))
here_found m n x xs to at above l = (
  newly_to m n x to at l.0,
  λ f t e d. elim (either (x.id == f) (is_present f xs) e) [
    | inl same ↦ let s : x.id ≡ f = eqb-true _ _ same in inr (s, l.1 t (newly_from m n x t at (subst (λ (y : ℕ). DanglesNewly m n y t) (sym s) d)))
    | inr other ↦ inl (above_present x.id f xs above other)
  ],
)

none_here : (m n : List Instance) (x : Instance) → instance_at x.id n ≡ Some x → TellsLeast (missing_ids m n x) None → (f t : ℕ) → (x.id == f) ≡ true → DanglesNewly m n f t → ⊥
none_here m n x at l f t same d =
    let s : x.id ≡ f = eqb-true _ _ same in
    false≢true (sym (l t) ∙ newly_from m n x t at (subst (λ (y : ℕ). DanglesNewly m n y t) (sym s) d))

later_found : (m n : List Instance) (x : Instance) (xs : List Instance) (o : Option CommitRefusal) → instance_at x.id n ≡ Some x → TellsLeast (missing_ids m n x) None → TellsFrom m n xs o → TellsFrom m n (x ∷ xs) o
later_found m n x xs None at l k =
    λ f t e d. elim (either (x.id == f) (is_present f xs) e) [ inl same ↦ none_here m n x at l f t same d | inr other ↦ k f t other d ]
later_found m n x xs (Some (Dangling from to)) at l k = (
  k.0,
  λ f t e d. elim (either (x.id == f) (is_present f xs) e) [ inl same ↦ absurd (none_here m n x at l f t same d) | inr other ↦ k.1 f t other d ],
)
later_found m n x xs (Some RevisionsFull) at l k = k
later_found m n x xs (Some (EditRefused number fault)) at l k = k

from_tells : (m n xs : List Instance) → IsModel xs → Each (λ x. instance_at x.id n ≡ Some x) xs → TellsFrom m n xs (dangling_from m n xs)
from_tells m n [] h a = λ f t e d. false≢true e
from_tells m n (x ∷ xs) h a =
    let rest : TellsFrom m n xs (dangling_from m n xs) = from_tells m n xs h.1 a.1 in
    let F : Option ℕ → Type 0 = λ o. TellsLeast (missing_ids m n x) o → TellsFrom m n (x ∷ xs) (option_or (option_map (λ to. Dangling x.id to) o) (dangling_from m n xs)) in
    let at : F (newly_missing m n x) = elim (newly_missing m n x) as F [
      | None ↦ λ l. later_found m n x xs (dangling_from m n xs) a.0 l rest
      | Some to ↦ λ l. here_found m n x xs to a.0 h.0 l
    ] in
    at (least_tells (missing_ids m n x))

-- whoever dangles is there
present_of : (n : List Instance) (f t : ℕ) → is_dangling n f t ≡ true → is_present f n ≡ true
present_of n f t e = found_present n f t (and_parts _ _ e).0 where
  found_present : (n : List Instance) (f t : ℕ) → option_map_or (λ x. has t (references x)) (instance_at f n) false ≡ true → is_present f n ≡ true
  found_present [] f t e = e
  found_present (x ∷ xs) f t e =
      let F : Bool → Type 0 = λ b. option_map_or (λ y. has t (references y)) (cond b (Some x) (instance_at f xs)) false ≡ true → (b || is_present f xs) ≡ true in
      let at : F (x.id == f) = elim (x.id == f) as F [ true ↦ λ k. refl | false ↦ λ k. found_present xs f t k ] in
      at e

all_told : (m n : List Instance) (o : Option CommitRefusal) → TellsFrom m n n o → TellsDangling m n o
all_told m n None k = λ f t d. k f t (present_of n f t d.0) d
all_told m n (Some (Dangling from to)) k = (k.0, λ f t d. k.1 f t (present_of n f t d.0) d)
all_told m n (Some RevisionsFull) k = k
all_told m n (Some (EditRefused number fault)) k = k

pub dangling_is_least : DanglingIsLeast
dangling_is_least m n h = all_told m n (dangling m n) (from_tells m n n h (at_own n h))
