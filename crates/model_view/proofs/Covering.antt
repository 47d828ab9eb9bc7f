-- The least pair that a commit lets dangle is found at the ids that its edits name and at the first holders of the removed ones.
use Rattle.std.proofs.Common.{◌≡◌, ℕ, ◌≤◌, ◌<◌, ◌==◌, min, Bool, true, false, not, ◌&&◌, ◌||◌, cond, if◌then◌else◌, ◌⊎◌, inl, inr, List, [], ◌∷◌, filter, filter_map, Option, Some, None, is_some, arith, refl, sym, ap, subst, ◌∙◌}
use Rattle.std.specs.List.{list_any, cons_option}
use Rattle.std.specs.Option.{option_and_then, option_map_or}
use Rattle.std.proofs.lemmas.Bool.{and_parts, and_from, eqb-true, eq-eqb, cases_lt, not-true, not-false, false≢true, true≢false}
use Rattle.ifc_base.specs.declared.value.Instance.{Instance}
use Rattle.audit_model.specs.declared.commit.Edit.{Edit}
use Rattle.audit_model.specs.declared.commit.CommitRefusal.{CommitRefusal}
use Rattle.audit_model.specs.declared.commit.CommitRefusal.TheVariants.{RevisionsFull, Edit as EditRefused, Dangling}
use Rattle.audit_model.specs.Models.{IsModel, instance_at, is_present}
use Rattle.audit_model.specs.Edits.{edit_id}
use Rattle.audit_model.specs.Judging.{references, is_dangling, least, newly_missing, dangling}
use Rattle.audit_model.specs.Keys.{holders}
use Rattle.audit_model.specs.Laws.{DanglesNewly, TellsDangling, DanglingIsLeast}
use Rattle.audit_model.proofs.EditLaws.{present_found}
use Rattle.audit_model.proofs.Tests.{or_true, with_one, without_one}
use Rattle.inverse_index.specs.Index.{holds}
use Rattle.inverse_index.proofs.Passing.{passes}
use Rattle.inverse_index.proofs.Members.{AllOver, Ascends, ascends, has, member}
use Rattle.model_view.specs.Dangles.{candidate, candidate_given, head_of, KeepsOthers, least_from, missing_at, missing_by}
use Rattle.model_view.proofs.Doing.{at_id}

either : (a b : Bool) → (a || b) ≡ true → (a ≡ true) ⊎ (b ≡ true)
either true b e = inl refl
either false b e = inr e

-- The least of a list.

abbrev TellsLeast : List ℕ → Option ℕ → Type 0
TellsLeast ids None = (t : ℕ) → has t ids ≡ false
TellsLeast ids (Some k) = (has k ids ≡ true) × ((t : ℕ) → has t ids ≡ true → k ≤ t)

least_one : (i : ℕ) (ids : List ℕ) → TellsLeast ids None → TellsLeast (i ∷ ids) (Some i)
least_one i ids none = (
  ap (λ (b : Bool). b || has i ids) (eq-eqb i i refl),
  λ t e. elim (either (i == t) (has t ids) e) [
    | inl same ↦ let s : i ≡ t = eqb-true i t same in omega (arith, s)
    | inr other ↦ absurd (false≢true (sym (none t) ∙ other))
  ],
)

least_more : (i k : ℕ) (ids : List ℕ) → TellsLeast ids (Some k) → TellsLeast (i ∷ ids) (Some (min i k))
least_more i k ids l =
    elim (cases_lt i k) [
      | inl lt ↦ let is : min i k ≡ i = omega (arith, lt) in subst (λ (x : ℕ). TellsLeast (i ∷ ids) (Some x)) (sym is) (
        ap (λ (b : Bool). b || has i ids) (eq-eqb i i refl),
        λ t e. elim (either (i == t) (has t ids) e) [
          | inl same ↦ let s : i ≡ t = eqb-true i t same in omega (arith, s)
          | inr other ↦ let le : k ≤ t = l.1 t other in omega (arith, le, lt)
        ],
      )
      | inr le ↦ let is : min i k ≡ k = omega (arith, le) in subst (λ (x : ℕ). TellsLeast (i ∷ ids) (Some x)) (sym is) (
        ap (λ (b : Bool). (i == k) || b) l.0 ∙ or_true (i == k),
        λ t e. elim (either (i == t) (has t ids) e) [
          | inl same ↦ let s : i ≡ t = eqb-true i t same in omega (arith, s, le)
          | inr other ↦ l.1 t other
        ],
      )
    ]

least_tells : (ids : List ℕ) → TellsLeast ids (least ids)
least_tells [] = λ t. refl
least_tells (i ∷ ids) =
    let F : Option ℕ → Type 0 = λ o. TellsLeast ids o → TellsLeast (i ∷ ids) (Some (option_map_or (min i) o i)) in
    let at : F (least ids) = elim (least ids) as F [ None ↦ least_one i ids | Some k ↦ least_more i k ids ] in
    at (least_tells ids)

-- What a filter keeps.
kept : (p : ℕ → Bool) (t : ℕ) (ids : List ℕ) → has t (filter p ids) ≡ (has t ids && p t)
kept p t [] = refl
kept p t (i ∷ ids) =
    let F : Bool → Type 0 = λ b. p i ≡ b → has t (cond b (i ∷ filter p ids) (filter p ids)) ≡ (((i == t) || has t ids) && p t) in
    let at : F (p i) = elim (p i) as F [
      | true ↦ λ e. ap (λ (b : Bool). (i == t) || b) (kept p t ids) ∙ with_one (i == t) (has t ids) (p t) (λ s. subst (λ (x : ℕ). p x ≡ true) (eqb-true i t s) e)
      | false ↦ λ e. kept p t ids ∙ without_one (i == t) (has t ids) (p t) (λ s. subst (λ (x : ℕ). p x ≡ false) (eqb-true i t s) e)
    ] in
    at refl

-- One instance.

abbrev is_newly_missing : List Instance → List Instance → ℕ → ℕ → Bool
is_newly_missing m n f to = not (is_present to n) && not (is_dangling m f to)

held_at : (n : List Instance) (f : ℕ) (x : Instance) (t : ℕ) → instance_at f n ≡ Some x → is_dangling n f t ≡ (has t (references x) && not (is_present t n))
held_at n f x t at = ap (λ (o : Option Instance). option_map_or (λ y. has t (references y)) o false && not (is_present t n)) at

newly_from : (m n : List Instance) (f : ℕ) (x : Instance) (t : ℕ) → instance_at f n ≡ Some x → DanglesNewly m n f t → has t (filter (is_newly_missing m n f) (references x)) ≡ true
newly_from m n f x t at d =
    let both : (has t (references x) ≡ true) × (not (is_present t n) ≡ true) = and_parts _ _ (sym (held_at n f x t at) ∙ d.0) in
    kept (is_newly_missing m n f) t (references x) ∙ and_from _ _ both.0 (and_from _ _ both.1 (ap not d.1))

newly_to : (m n : List Instance) (f : ℕ) (x : Instance) (t : ℕ) → instance_at f n ≡ Some x → has t (filter (is_newly_missing m n f) (references x)) ≡ true → DanglesNewly m n f t
newly_to m n f x t at e =
    let one : (has t (references x) ≡ true) × (is_newly_missing m n f t ≡ true) = and_parts _ _ (sym (kept (is_newly_missing m n f) t (references x)) ∙ e) in
    let two : (not (is_present t n) ≡ true) × (not (is_dangling m f t) ≡ true) = and_parts _ _ one.1 in
    (held_at n f x t at ∙ and_from _ _ one.0 two.0, not-true _ two.1)

-- nothing is missing newly to the instance f, or the least id that is
abbrev TellsAt : List Instance → List Instance → ℕ → Option ℕ → Type 0
TellsAt m n f None = (t : ℕ) → DanglesNewly m n f t → ⊥
TellsAt m n f (Some k) = DanglesNewly m n f k × ((t : ℕ) → DanglesNewly m n f t → k ≤ t)

tells_here : (m n : List Instance) (f : ℕ) (x : Instance) (o : Option ℕ) → instance_at f n ≡ Some x → TellsLeast (filter (is_newly_missing m n f) (references x)) o → TellsAt m n f o
tells_here m n f x None at l = λ t d. false≢true (sym (l t) ∙ newly_from m n f x t at d)
tells_here m n f x (Some k) at l = (newly_to m n f x k at l.0, λ t d. l.1 t (newly_from m n f x t at d))

missing_tells : (m n : List Instance) (f : ℕ) → TellsAt m n f (missing_at m n f)
missing_tells m n f =
    let F : Option Instance → Type 0 = λ o. instance_at f n ≡ o → TellsAt m n f (option_and_then (newly_missing m n) o) in
    let at : F (instance_at f n) = elim (instance_at f n) as F [
      | None ↦ λ e. λ t d. false≢true (ap (λ (o : Option Instance). option_map_or (λ y. has t (references y)) o false && not (is_present t n)) (sym e) ∙ d.0)
      | Some x ↦ λ e. tells_here m n f x (newly_missing m n x) e
          (subst (λ (i : ℕ). TellsLeast (filter (is_newly_missing m n i) (references x)) (newly_missing m n x)) (at_id f n x e) (least_tells (filter (is_newly_missing m n x.id) (references x))))
    ] in
    at refl

misses : (m n : List Instance) (f t : ℕ) → DanglesNewly m n f t → is_some (missing_at m n f) ≡ true
misses m n f t d =
    let F : Option ℕ → Type 0 = λ o. TellsAt m n f o → is_some o ≡ true in
    let at : F (missing_at m n f) = elim (missing_at m n f) as F [ None ↦ λ h. absurd (h t d) | Some k ↦ λ h. refl ] in
    at (missing_tells m n f)

-- The candidates.

abbrev froms : List Instance → List Instance → List Edit → List ℕ
froms m n es = filter_map (λ e. missing_by m n (edit_id e)) es

by_candidate : (m n : List Instance) (i c : ℕ) → candidate m n i ≡ Some c → is_some (missing_at m n c) ≡ true → missing_by m n i ≡ Some c
by_candidate m n i c e h = ap (option_and_then (λ d. if is_some (missing_at m n d) then Some d else None)) e ∙ ap (λ (b : Bool). if b then Some c else None) h

has_given : (c d : ℕ) (o : Option ℕ) (rest : List ℕ) → o ≡ Some c → has c (cons_option o rest) ≡ true
has_given c d o rest e = ap (λ (p : Option ℕ). has c (cons_option p rest)) e ∙ ap (λ (b : Bool). b || has c rest) (eq-eqb c c refl)

has_later : (c : ℕ) (o : Option ℕ) (rest : List ℕ) → has c rest ≡ true → has c (cons_option o rest) ≡ true
has_later c None rest e = e
has_later c (Some d) rest e = ap (λ (b : Bool). d == c || b) e ∙ or_true (d == c)

has_candidate : (m n : List Instance) (es : List Edit) (i c : ℕ) → list_any (λ e. edit_id e == i) es ≡ true → missing_by m n i ≡ Some c → has c (froms m n es) ≡ true
has_candidate m n [] i c h e = absurd (false≢true h)
has_candidate m n (d ∷ ds) i c h e =
    elim (either (edit_id d == i) (list_any (λ e. edit_id e == i) ds) h) [
      | inl same ↦ has_given c i (missing_by m n (edit_id d)) (froms m n ds) (ap (missing_by m n) (eqb-true (edit_id d) i same) ∙ e)
      | inr other ↦ has_later c (missing_by m n (edit_id d)) (froms m n ds) (has_candidate m n ds i c other e)
    ]

-- the first of ascending ids is the least
head_least : (f : ℕ) (is : List ℕ) → Ascends is → has f is ≡ true → (c : ℕ) × (head_of is ≡ Some c) × (has c is ≡ true) × (c ≤ f)
head_least f [] a h = absurd (false≢true h)
head_least f (i ∷ is) a h = (i, refl, ap (λ (b : Bool). b || has i is) (eq-eqb i i refl), bound)
  where
    over : (k : ℕ) (xs : List ℕ) → AllOver k xs → has f xs ≡ true → k < f
    over k [] o e = absurd (false≢true e)
    over k (x ∷ xs) o e = elim (either (x == f) (has f xs) e) [ inl same ↦ let s : x ≡ f = eqb-true x f same in omega (arith, s, o.0) | inr other ↦ over k xs o.1 other ]

    bound : i ≤ f
    bound = elim (either (i == f) (has f is) h) [ inl same ↦ let s : i ≡ f = eqb-true i f same in omega (arith, s) | inr other ↦ let l : i < f = over i is a.0 other in omega (arith, l) ]

found_present : (i : ℕ) (m : List Instance) (o : Option Instance) → instance_at i m ≡ o → is_some o ≡ is_present i m
found_present i m o e = ap (λ (w : Option Instance). is_some w) (sym e) ∙ present_found i m

there : (m n : List Instance) (f t : ℕ) → is_dangling n f t ≡ true → (x : Instance) × (instance_at f n ≡ Some x) × (has t (references x) ≡ true) × (is_present t n ≡ false)
there m n f t e =
    let both = and_parts (option_map_or (λ y. has t (references y)) (instance_at f n) false) (not (is_present t n)) e in
    let F : Option Instance → Type 0 = λ o. instance_at f n ≡ o → option_map_or (λ y. has t (references y)) o false ≡ true → (x : Instance) × (instance_at f n ≡ Some x) × (has t (references x) ≡ true) × (is_present t n ≡ false) in
    let at : F (instance_at f n) = elim (instance_at f n) as F [ None ↦ λ i h. absurd (false≢true h) | Some x ↦ λ i h. (x, i, h, not-true _ both.1) ] in
    at refl both.0

module _ (m n : List Instance) (es : List Edit) (after : IsModel n) (keeps : KeepsOthers es m n) where
  -- an edited instance that is there
  by_itself : (f t : ℕ) (x : Instance) → DanglesNewly m n f t → instance_at f n ≡ Some x → list_any (λ e. edit_id e == f) es ≡ true → has f (froms m n es) ≡ true
  by_itself f t x d here named =
      has_candidate m n es f f named (by_candidate m n f f (ap (candidate_given n f (instance_at f m)) here) (misses m n f t d))

  -- a holder of an id that was there and isn't now
  by_holder : (f t : ℕ) (x y : Instance) → instance_at f n ≡ Some x → has t (references x) ≡ true → instance_at t m ≡ Some y → instance_at t n ≡ None → list_any (λ e. edit_id e == t) es ≡ true → (c : ℕ) × (has c (froms m n es) ≡ true) × (c ≤ f)
  by_holder f t x y here held was gone named =
      let among : has f (holders n t) ≡ true = member (holds t) n f after ∙ ap (passes (holds t)) here ∙ held in
      let head = head_least f (holders n t) (ascends (holds t) n after) among in
      let c = head.0 in
      let holds_it : passes (holds t) (instance_at c n) ≡ true = sym (member (holds t) n c after) ∙ head.2 in
      let missing : is_present t n ≡ false = sym (found_present t n None gone) in
      let stood : is_present t m ≡ true = sym (found_present t m (Some y) was) in
      let now : is_dangling n c t ≡ true = and_from _ _ (passed (instance_at c n) t holds_it) (ap not missing) in
      let before : is_dangling m c t ≡ false = ap (λ (b : Bool). option_map_or (λ z. has t (references z)) (instance_at c m) false && not b) stood ∙ and_false (option_map_or (λ z. has t (references z)) (instance_at c m) false) in
      let given : candidate m n t ≡ Some c = ap (λ (o : Option Instance). candidate_given n t o (instance_at t n)) was ∙ ap (candidate_given n t (Some y)) gone ∙ head.1 in
      (c, has_candidate m n es t c named (by_candidate m n t c given (misses m n c t (now, before))), head.3)
    where
      and_false : (a : Bool) → (a && false) ≡ false
      and_false true = refl
      and_false false = refl

      passed : (o : Option Instance) (t : ℕ) → passes (holds t) o ≡ true → option_map_or (λ z. has t (references z)) o false ≡ true
      passed None t e = e
      passed (Some z) t e = e

  covered : (f t : ℕ) → DanglesNewly m n f t → (c : ℕ) × (has c (froms m n es) ≡ true) × (c ≤ f)
  covered f t d =
      let now = there m n f t d.0 in
      let x = now.0 in
      let here : instance_at f n ≡ Some x = now.1 in
      let F : Bool → Type 0 = λ b. list_any (λ e. edit_id e == f) es ≡ b → (c : ℕ) × (has c (froms m n es) ≡ true) × (c ≤ f) in
      let at : F (list_any (λ e. edit_id e == f) es) = elim (list_any (λ e. edit_id e == f) es) as F [
        | true ↦ λ named. (f, by_itself f t x d here named, omega arith)
        | false ↦ λ unnamed.
            let same : instance_at f m ≡ Some x = sym (keeps f unnamed) ∙ here in
            let still : (has t (references x) && not (is_present t m)) ≡ false = sym (held_at m f x t same) ∙ d.1 in
            let was : is_present t m ≡ true = not-false _ (ap (λ (b : Bool). b && not (is_present t m)) (sym now.2) ∙ still) in
            let G : Option Instance → Type 0 = λ o. instance_at t m ≡ o → (c : ℕ) × (has c (froms m n es) ≡ true) × (c ≤ f) in
            let H : Option Instance → Type 0 = λ o. instance_at t n ≡ o → o ≡ None in
            let gone : H (instance_at t n) = elim (instance_at t n) as H [ None ↦ λ e. refl | Some z ↦ λ e. absurd (true≢false (found_present t n (Some z) e ∙ now.3)) ] in
            let none : instance_at t n ≡ None = gone refl in
            let K : Bool → Type 0 = λ b. list_any (λ e. edit_id e == t) es ≡ b → b ≡ true in
            let named : K (list_any (λ e. edit_id e == t) es) = elim (list_any (λ e. edit_id e == t) es) as K [
              | true ↦ λ k. refl
              | false ↦ λ k. absurd (false≢true (found_present t m None (sym (keeps t k) ∙ none) ∙ was))
            ] in
            let by : G (instance_at t m) = elim (instance_at t m) as G [
              | None ↦ λ e. absurd (false≢true (found_present t m None e ∙ was))
              | Some y ↦ λ e. by_holder f t x y here now.2 e none (named refl)
            ] in
            by refl
      ] in
      at refl

  -- the least of the candidates tells
  told_none : ((c : ℕ) → has c (froms m n es) ≡ false) → TellsDangling m n None
  told_none h = λ f t d. let c = covered f t d in false≢true (sym (h c.0) ∙ c.1)

  told_some : (k to : ℕ) → has k (froms m n es) ≡ true → ((c : ℕ) → has c (froms m n es) ≡ true → k ≤ c) → TellsAt m n k (Some to) → TellsDangling m n (Some (Dangling k to))
  told_some k to h least_of at = (
    at.0,
    λ f t d.
        let c = covered f t d in
        let le : k ≤ f = let one : k ≤ c.0 = least_of c.0 c.1 in let two : c.0 ≤ f = c.2 in omega (arith, one, two) in
        elim (cases_lt k f) [
          | inl lt ↦ inl lt
          | inr ge ↦ let same : k ≡ f = omega (arith, le, ge) in inr (same, at.1 t (subst (λ (i : ℕ). DanglesNewly m n i t) (sym same) d))
        ],
  )

-- what is among them misses something
given_misses : (m n : List Instance) (c k : ℕ) (o : Option ℕ) → option_and_then (λ d. if is_some (missing_at m n d) then Some d else None) o ≡ Some c → is_some (missing_at m n c) ≡ true
given_misses m n c k None e = absurd (cc)
given_misses m n c k (Some d) e =
    let F : Bool → Type 0 = λ b. is_some (missing_at m n d) ≡ b → (if b then Some d else None) ≡ Some c → is_some (missing_at m n c) ≡ true in
    let at : F (is_some (missing_at m n d)) = elim (is_some (missing_at m n d)) as F [
      | true ↦ λ h i. let same : d ≡ c = cc in subst (λ (x : ℕ). is_some (missing_at m n x) ≡ true) same h
      | false ↦ λ h i. absurd (cc)
    ] in
    at refl e

from_misses : (m n : List Instance) (es : List Edit) (c : ℕ) → has c (froms m n es) ≡ true → is_some (missing_at m n c) ≡ true
from_misses m n [] c h = absurd (false≢true h)
from_misses m n (e ∷ es) c h =
    let F : Option ℕ → Type 0 = λ o. missing_by m n (edit_id e) ≡ o → has c (cons_option o (froms m n es)) ≡ true → is_some (missing_at m n c) ≡ true in
    let at : F (missing_by m n (edit_id e)) = elim (missing_by m n (edit_id e)) as F [
      | None ↦ λ i k. from_misses m n es c k
      | Some d ↦ λ i k. elim (either (d == c) (has c (froms m n es)) k) [
        | inl same ↦ given_misses m n c d (candidate m n (edit_id e)) (i ∙ ap (λ (x : ℕ). Some x) (eqb-true d c same))
        | inr other ↦ from_misses m n es c other
      ]
    ] in
    at refl h

-- Two refusals that tell the same are one.

abbrev IsBefore : ℕ → ℕ → ℕ → ℕ → Type 0
IsBefore f t g u = (f < g) ⊎ ((f ≡ g) × (t ≤ u))

same_pair : (f t g u : ℕ) → IsBefore f t g u → IsBefore g u f t → (f ≡ g) × (t ≡ u)
same_pair f t g u (inl a) (inl b) = absurd (omega (arith, a, b))
same_pair f t g u (inl a) (inr b) = absurd (omega (arith, a, b.0))
same_pair f t g u (inr a) (inl b) = absurd (omega (arith, a.0, b))
same_pair f t g u (inr a) (inr b) = (a.0, omega (arith, a.1, b.1))

tell_same : (m n : List Instance) (o w : Option CommitRefusal) → TellsDangling m n o → TellsDangling m n w → o ≡ w
tell_same m n None None h k = refl
tell_same m n None (Some (Dangling g u)) h k = absurd (h g u k.0)
tell_same m n None (Some RevisionsFull) h k = absurd k
tell_same m n None (Some (EditRefused number fault)) h k = absurd k
tell_same m n (Some RevisionsFull) w h k = absurd h
tell_same m n (Some (EditRefused number fault)) w h k = absurd h
tell_same m n (Some (Dangling f t)) None h k = absurd (k f t h.0)
tell_same m n (Some (Dangling f t)) (Some RevisionsFull) h k = absurd k
tell_same m n (Some (Dangling f t)) (Some (EditRefused number fault)) h k = absurd k
tell_same m n (Some (Dangling f t)) (Some (Dangling g u)) h k =
    let same : (f ≡ g) × (t ≡ u) = same_pair f t g u (h.1 g u k.0) (k.1 f t h.0) in
    ap (λ (i : ℕ). Some (Dangling i t)) same.0 ∙ ap (λ (i : ℕ). Some (Dangling g i)) same.1

module _ (m n : List Instance) (es : List Edit) (after : IsModel n) (keeps : KeepsOthers es m n) (law : DanglingIsLeast) where
  pub none_found : least_from m n es ≡ None → None ≡ dangling m n
  none_found e = tell_same m n None (dangling m n) (told_none m n es after keeps (subst (TellsLeast (froms m n es)) e (least_tells (froms m n es)))) (law m n after)

  pub one_found : (k to : ℕ) → least_from m n es ≡ Some k → missing_at m n k ≡ Some to → Some (Dangling k to) ≡ dangling m n
  one_found k to e at =
      let tells : TellsLeast (froms m n es) (Some k) = subst (TellsLeast (froms m n es)) e (least_tells (froms m n es)) in
      tell_same m n (Some (Dangling k to)) (dangling m n) (told_some m n es after keeps k to tells.0 tells.1 (subst (TellsAt m n k) at (missing_tells m n k))) (law m n after)

  -- the least of the candidates misses something
  pub not_lost : (k : ℕ) → least_from m n es ≡ Some k → missing_at m n k ≡ None → ⊥
  not_lost k e at =
      let tells : TellsLeast (froms m n es) (Some k) = subst (TellsLeast (froms m n es)) e (least_tells (froms m n es)) in
      false≢true (ap (λ (o : Option ℕ). is_some o) (sym at) ∙ from_misses m n es k tells.0)
