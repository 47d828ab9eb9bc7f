-- The least pair that a commit lets dangle is found at the candidates: the instances at the ids that its edits name, and the first holders of
-- the removed ones that they don't name.
use Rattle.std.proofs.Common.{◌≡◌, ℕ, ◌≤◌, ◌<◌, ◌==◌, min, Bool, true, false, not, ◌&&◌, ◌||◌, cond, if◌then◌else◌, ◌⊎◌, inl, inr, List, [], ◌∷◌, filter, filter_map, find, Option, Some, None, is_some, unwrap_or, arith, refl, sym, ap, subst, ◌∙◌}
use Rattle.std.specs.List.{list_any, cons_option}
use Rattle.std.specs.Option.{option_and_then, option_map_or}
use Rattle.std.specs.BTreeMap.{BTreeMap}
use Rattle.std.proofs.lemmas.Bool.{and_parts, and_from, eqb-true, eq-eqb, cases_lt, not-true, not-false, false≢true, true≢false}
use Rattle.ifc_base.specs.declared.value.Instance.{Instance}
use Rattle.audit_model.specs.declared.commit.Edit.{Edit}
use Rattle.audit_model.specs.declared.commit.CommitRefusal.{CommitRefusal}
use Rattle.audit_model.specs.declared.commit.CommitRefusal.TheVariants.{RevisionsFull, Edit as EditRefused, Dangling}
use Rattle.audit_model.specs.Models.{IsModel, instance_at, is_present}
use Rattle.audit_model.specs.Edits.{edit_id}
use Rattle.audit_model.specs.Judging.{references, is_dangling, least, newly_missing, dangling}
use Rattle.audit_model.specs.Keys.{holders}
use Rattle.audit_model.specs.Laws.{DanglesNewly, TellsDangling, DanglingIsLeast}
use Rattle.audit_model.proofs.EditLaws.{present_found}
use Rattle.audit_model.proofs.Tests.{or_true, with_one, without_one}
use Rattle.inverse_index.specs.Index.{holds}
use Rattle.inverse_index.proofs.Passing.{passes}
use Rattle.inverse_index.proofs.Members.{AllOver, Ascends, ascends, has, member}
use Rattle.model_view.proofs.Doing.{at_id}
use Rattle.commit_rules.specs.Overlays.{over, put_at}
use Rattle.commit_rules.specs.Dangles.{candidate, candidate_given, first_unput, held, is_newly_missing, least_from, missing_at, missing_by, missing_to}

either : (a b : Bool) → (a || b) ≡ true → (a ≡ true) ⊎ (b ≡ true)
either true b e = inl refl
either false b e = inr e

-- The least of a list.

abbrev TellsLeast : List ℕ → Option ℕ → Type 0
TellsLeast ids None = (t : ℕ) → has t ids ≡ false
TellsLeast ids (Some k) = (has k ids ≡ true) × ((t : ℕ) → has t ids ≡ true → k ≤ t)

least_one : (i : ℕ) (ids : List ℕ) → TellsLeast ids None → TellsLeast (i ∷ ids) (Some i)
least_one i ids none = (
  ap (λ (b : Bool). b || has i ids) (eq-eqb i i refl),
  λ t e. elim (either (i == t) (has t ids) e) [
    | inl same ↦ let s : i ≡ t = eqb-true i t same in omega (arith, s)
    | inr other ↦ absurd (false≢true (sym (none t) ∙ other))
  ],
)

least_more : (i k : ℕ) (ids : List ℕ) → TellsLeast ids (Some k) → TellsLeast (i ∷ ids) (Some (min i k))
least_more i k ids l =
    elim (cases_lt i k) [
      | inl lt ↦ let is : min i k ≡ i = omega (arith, lt) in subst (λ (x : ℕ). TellsLeast (i ∷ ids) (Some x)) (sym is) (
        ap (λ (b : Bool). b || has i ids) (eq-eqb i i refl),
        λ t e. elim (either (i == t) (has t ids) e) [
          | inl same ↦ let s : i ≡ t = eqb-true i t same in omega (arith, s)
          | inr other ↦ let le : k ≤ t = l.1 t other in omega (arith, le, lt)
        ],
      )
      | inr le ↦ let is : min i k ≡ k = omega (arith, le) in subst (λ (x : ℕ). TellsLeast (i ∷ ids) (Some x)) (sym is) (
        ap (λ (b : Bool). (i == k) || b) l.0 ∙ or_true (i == k),
        λ t e. elim (either (i == t) (has t ids) e) [
          | inl same ↦ let s : i ≡ t = eqb-true i t same in omega (arith, s, le)
          | inr other ↦ l.1 t other
        ],
      )
    ]

least_tells : (ids : List ℕ) → TellsLeast ids (least ids)
least_tells [] = λ t. refl
least_tells (i ∷ ids) =
    let F : Option ℕ → Type 0 = λ o. TellsLeast ids o → TellsLeast (i ∷ ids) (Some (option_map_or (min i) o i)) in
    let at : F (least ids) = elim (least ids) as F [ None ↦ least_one i ids | Some k ↦ least_more i k ids ] in
    at (least_tells ids)

-- What a filter keeps.
kept : (p : ℕ → Bool) (t : ℕ) (ids : List ℕ) → has t (filter p ids) ≡ (has t ids && p t)
kept p t [] = refl
kept p t (i ∷ ids) =
    let F : Bool → Type 0 = λ b. p i ≡ b → has t (cond b (i ∷ filter p ids) (filter p ids)) ≡ (((i == t) || has t ids) && p t) in
    let at : F (p i) = elim (p i) as F [
      | true ↦ λ e. ap (λ (b : Bool). (i == t) || b) (kept p t ids) ∙ with_one (i == t) (has t ids) (p t) (λ s. subst (λ (x : ℕ). p x ≡ true) (eqb-true i t s) e)
      | false ↦ λ e. kept p t ids ∙ without_one (i == t) (has t ids) (p t) (λ s. subst (λ (x : ℕ). p x ≡ false) (eqb-true i t s) e)
    ] in
    at refl

-- One instance.

abbrev dangles_newly : List Instance → List Instance → ℕ → ℕ → Bool
dangles_newly m n f to = not (is_present to n) && not (is_dangling m f to)

held_at : (n : List Instance) (f : ℕ) (x : Instance) (t : ℕ) → instance_at f n ≡ Some x → is_dangling n f t ≡ (has t (references x) && not (is_present t n))
held_at n f x t at = ap (λ (o : Option Instance). option_map_or (λ y. has t (references y)) o false && not (is_present t n)) at

newly_from : (m n : List Instance) (f : ℕ) (x : Instance) (t : ℕ) → instance_at f n ≡ Some x → DanglesNewly m n f t → has t (filter (dangles_newly m n f) (references x)) ≡ true
newly_from m n f x t at d =
    let both : (has t (references x) ≡ true) × (not (is_present t n) ≡ true) = and_parts _ _ (sym (held_at n f x t at) ∙ d.0) in
    kept (dangles_newly m n f) t (references x) ∙ and_from _ _ both.0 (and_from _ _ both.1 (ap not d.1))

newly_to : (m n : List Instance) (f : ℕ) (x : Instance) (t : ℕ) → instance_at f n ≡ Some x → has t (filter (dangles_newly m n f) (references x)) ≡ true → DanglesNewly m n f t
newly_to m n f x t at e =
    let one : (has t (references x) ≡ true) × (dangles_newly m n f t ≡ true) = and_parts _ _ (sym (kept (dangles_newly m n f) t (references x)) ∙ e) in
    let two : (not (is_present t n) ≡ true) × (not (is_dangling m f t) ≡ true) = and_parts _ _ one.1 in
    (held_at n f x t at ∙ and_from _ _ one.0 two.0, not-true _ two.1)

-- nothing is missing newly to the instance f, or the least id that is
abbrev TellsAt : List Instance → List Instance → ℕ → Option ℕ → Type 0
TellsAt m n f None = (t : ℕ) → DanglesNewly m n f t → ⊥
TellsAt m n f (Some k) = DanglesNewly m n f k × ((t : ℕ) → DanglesNewly m n f t → k ≤ t)

tells_here : (m n : List Instance) (f : ℕ) (x : Instance) (o : Option ℕ) → instance_at f n ≡ Some x → TellsLeast (filter (dangles_newly m n f) (references x)) o → TellsAt m n f o
tells_here m n f x None at l = λ t d. false≢true (sym (l t) ∙ newly_from m n f x t at d)
tells_here m n f x (Some k) at l = (newly_to m n f x k at l.0, λ t d. l.1 t (newly_from m n f x t at d))

-- the least id that is missing newly to the instance of this id in n, if there is one
abbrev missing : List Instance → List Instance → ℕ → Option ℕ
missing m n f = option_and_then (newly_missing m n) (instance_at f n)

missing_tells : (m n : List Instance) (f : ℕ) → TellsAt m n f (missing m n f)
missing_tells m n f =
    let F : Option Instance → Type 0 = λ o. instance_at f n ≡ o → TellsAt m n f (option_and_then (newly_missing m n) o) in
    let at : F (instance_at f n) = elim (instance_at f n) as F [
      | None ↦ λ e. λ t d. false≢true (ap (λ (o : Option Instance). option_map_or (λ y. has t (references y)) o false && not (is_present t n)) (sym e) ∙ d.0)
      | Some x ↦ λ e. tells_here m n f x (newly_missing m n x) e
          (subst (λ (i : ℕ). TellsLeast (filter (dangles_newly m n i) (references x)) (newly_missing m n x)) (at_id f n x e) (least_tells (filter (dangles_newly m n x.id) (references x))))
    ] in
    at refl

misses : (m n : List Instance) (f t : ℕ) → DanglesNewly m n f t → is_some (missing m n f) ≡ true
misses m n f t d =
    let F : Option ℕ → Type 0 = λ o. TellsAt m n f o → is_some o ≡ true in
    let at : F (missing m n f) = elim (missing m n f) as F [ None ↦ λ h. absurd (h t d) | Some k ↦ λ h. refl ] in
    at (missing_tells m n f)

-- Two refusals that tell the same are one.

abbrev IsBefore : ℕ → ℕ → ℕ → ℕ → Type 0
IsBefore f t g u = (f < g) ⊎ ((f ≡ g) × (t ≤ u))

same_pair : (f t g u : ℕ) → IsBefore f t g u → IsBefore g u f t → (f ≡ g) × (t ≡ u)
same_pair f t g u (inl a) (inl b) = absurd (omega (arith, a, b))
same_pair f t g u (inl a) (inr b) = absurd (omega (arith, a, b.0))
same_pair f t g u (inr a) (inl b) = absurd (omega (arith, a.0, b))
same_pair f t g u (inr a) (inr b) = (a.0, omega (arith, a.1, b.1))

tell_same : (m n : List Instance) (o w : Option CommitRefusal) → TellsDangling m n o → TellsDangling m n w → o ≡ w
tell_same m n None None h k = refl
tell_same m n None (Some (Dangling g u)) h k = absurd (h g u k.0)
tell_same m n None (Some RevisionsFull) h k = absurd k
tell_same m n None (Some (EditRefused number fault)) h k = absurd k
tell_same m n (Some RevisionsFull) w h k = absurd h
tell_same m n (Some (EditRefused number fault)) w h k = absurd h
tell_same m n (Some (Dangling f t)) None h k = absurd (k f t h.0)
tell_same m n (Some (Dangling f t)) (Some RevisionsFull) h k = absurd k
tell_same m n (Some (Dangling f t)) (Some (EditRefused number fault)) h k = absurd k
tell_same m n (Some (Dangling f t)) (Some (Dangling g u)) h k =
    let same : (f ≡ g) × (t ≡ u) = same_pair f t g u (h.1 g u k.0) (k.1 f t h.0) in
    ap (λ (i : ℕ). Some (Dangling i t)) same.0 ∙ ap (λ (i : ℕ). Some (Dangling g i)) same.1

found_present : (i : ℕ) (m : List Instance) (o : Option Instance) → instance_at i m ≡ o → is_some o ≡ is_present i m
found_present i m o e = ap (λ (w : Option Instance). is_some w) (sym e) ∙ present_found i m

there : (m n : List Instance) (f t : ℕ) → is_dangling n f t ≡ true → (x : Instance) × (instance_at f n ≡ Some x) × (has t (references x) ≡ true) × (is_present t n ≡ false)
there m n f t e =
    let both = and_parts (option_map_or (λ y. has t (references y)) (instance_at f n) false) (not (is_present t n)) e in
    let F : Option Instance → Type 0 = λ o. instance_at f n ≡ o → option_map_or (λ y. has t (references y)) o false ≡ true → (x : Instance) × (instance_at f n ≡ Some x) × (has t (references x) ≡ true) × (is_present t n ≡ false) in
    let at : F (instance_at f n) = elim (instance_at f n) as F [ None ↦ λ i h. absurd (false≢true h) | Some x ↦ λ i h. (x, i, h, not-true _ both.1) ] in
    at refl both.0

-- Lists of candidates.

abbrev froms : (ℕ → Option ℕ) → List Edit → List ℕ
froms g es = filter_map (λ e. g (edit_id e)) es

has_given : (c : ℕ) (o : Option ℕ) (rest : List ℕ) → o ≡ Some c → has c (cons_option o rest) ≡ true
has_given c o rest e = ap (λ (p : Option ℕ). has c (cons_option p rest)) e ∙ ap (λ (b : Bool). b || has c rest) (eq-eqb c c refl)

has_later : (c : ℕ) (o : Option ℕ) (rest : List ℕ) → has c rest ≡ true → has c (cons_option o rest) ≡ true
has_later c None rest e = e
has_later c (Some d) rest e = ap (λ (b : Bool). d == c || b) e ∙ or_true (d == c)

has_from : (g : ℕ → Option ℕ) (es : List Edit) (i c : ℕ) → list_any (λ e. edit_id e == i) es ≡ true → g i ≡ Some c → has c (froms g es) ≡ true
has_from g [] i c h e = absurd (false≢true h)
has_from g (d ∷ ds) i c h e =
    elim (either (edit_id d == i) (list_any (λ e. edit_id e == i) ds) h) [
      | inl same ↦ has_given c (g (edit_id d)) (froms g ds) (ap g (eqb-true (edit_id d) i same) ∙ e)
      | inr other ↦ has_later c (g (edit_id d)) (froms g ds) (has_from g ds i c other e)
    ]

-- what is among them passes the test that each passed
from_passed : (g : ℕ → Option ℕ) (q : ℕ → Bool) (passed : (i c : ℕ) → g i ≡ Some c → q c ≡ true) (es : List Edit) (c : ℕ) → has c (froms g es) ≡ true → q c ≡ true
from_passed g q passed [] c h = absurd (false≢true h)
from_passed g q passed (e ∷ es) c h =
    let F : Option ℕ → Type 0 = λ o. g (edit_id e) ≡ o → has c (cons_option o (froms g es)) ≡ true → q c ≡ true in
    let at : F (g (edit_id e)) = elim (g (edit_id e)) as F [
      | None ↦ λ i k. from_passed g q passed es c k
      | Some d ↦ λ i k. elim (either (d == c) (has c (froms g es)) k) [
        | inl same ↦ passed (edit_id e) c (i ∙ ap (λ (x : ℕ). Some x) (eqb-true d c same))
        | inr other ↦ from_passed g q passed es c other
      ]
    ] in
    at refl h

if_passed : (q : ℕ → Bool) (c : ℕ) (o : Option ℕ) → option_and_then (λ d. if q d then Some d else None) o ≡ Some c → q c ≡ true
if_passed q c None e = absurd (cc)
if_passed q c (Some d) e =
    let F : Bool → Type 0 = λ b. q d ≡ b → (if b then Some d else None) ≡ Some c → q c ≡ true in
    let at : F (q d) = elim (q d) as F [
      | true ↦ λ h i. let same : d ≡ c = cc in subst (λ (x : ℕ). q x ≡ true) same h
      | false ↦ λ h i. absurd (cc)
    ] in
    at refl e

-- the first of ascending ids that pass is the least
first_least : (p : ℕ → Bool) (f : ℕ) (is : List ℕ) → Ascends is → has f is ≡ true → p f ≡ true → (c : ℕ) × (find p is ≡ Some c) × (has c is ≡ true) × (p c ≡ true) × (c ≤ f)
first_least p f [] a h q = absurd (false≢true h)
first_least p f (i ∷ is) a h q =
    let G : Bool → Type 0 = λ b. p i ≡ b → (c : ℕ) × (cond b (Some i) (find p is) ≡ Some c) × (has c (i ∷ is) ≡ true) × (p c ≡ true) × (c ≤ f) in
    let at : G (p i) = elim (p i) as G [
      | true ↦ λ e. (i, refl, ap (λ (b : Bool). b || has i is) (eq-eqb i i refl), e, bound)
      | false ↦ λ e.
          let later : has f is ≡ true = elim (either (i == f) (has f is) h) [ inl same ↦ absurd (false≢true (sym e ∙ ap p (eqb-true i f same) ∙ q)) | inr other ↦ other ] in
          let r = first_least p f is a.1 later q in
          (r.0, r.1, ap (λ (b : Bool). i == r.0 || b) r.2 ∙ or_true (i == r.0), r.3, r.4)
    ] in
    at refl
  where
    after : (k : ℕ) (xs : List ℕ) → AllOver k xs → has f xs ≡ true → k < f
    after k [] o e = absurd (false≢true e)
    after k (x ∷ xs) o e = elim (either (x == f) (has f xs) e) [ inl same ↦ let s : x ≡ f = eqb-true x f same in omega (arith, s, o.0) | inr other ↦ after k xs o.1 other ]

    bound : i ≤ f
    bound = elim (either (i == f) (has f is) h) [ inl same ↦ let s : i ≡ f = eqb-true i f same in omega (arith, s) | inr other ↦ let l : i < f = after i is a.0 other in omega (arith, l) ]

and_false : (a : Bool) → (a && false) ≡ false
and_false true = refl
and_false false = refl

passed_by : (o : Option Instance) (t : ℕ) → passes (holds t) o ≡ true → option_map_or (λ z. has t (references z)) o false ≡ true
passed_by None t e = e
passed_by (Some z) t e = e

-- The candidates of a commit from m to n, which was put over m.

module _ (m n : List Instance) (es : List Edit) (t : BTreeMap ℕ (Option Instance)) (below : ℕ → Option Instance) (before : IsModel m) (after : IsModel n) (stood : (i : ℕ) → below i ≡ instance_at i m) (stands : (i : ℕ) → over t below i ≡ instance_at i n) (named : (i : ℕ) → is_some (put_at t i) ≡ list_any (λ e. edit_id e == i) es) where
  newly_is : (f to : ℕ) → is_newly_missing t below f to ≡ dangles_newly m n f to
  newly_is f to =
      ap (λ (o : Option Instance). not (is_some o) && not (held below f to && not (is_some (below to)))) (stands to)
      ∙ ap (λ (b : Bool). not b && not (held below f to && not (is_some (below to)))) (present_found to n)
      ∙ ap (λ (o : Option Instance). not (is_present to n) && not (option_map_or (λ x. has to (references x)) o false && not (is_some (below to)))) (stood f)
      ∙ ap (λ (o : Option Instance). not (is_present to n) && not (option_map_or (λ x. has to (references x)) (instance_at f m) false && not (is_some o))) (stood to)
      ∙ ap (λ (b : Bool). not (is_present to n) && not (option_map_or (λ x. has to (references x)) (instance_at f m) false && not b)) (present_found to m)

  missing_to_is : (x : Instance) → missing_to t below x ≡ newly_missing m n x
  missing_to_is x =
      let same : is_newly_missing t below x.id ≡ dangles_newly m n x.id = λ i to. newly_is x.id to i in
      ap (λ (p : ℕ → Bool). least (filter p (references x))) same

  pub missing_is : (f : ℕ) → missing_at t below f ≡ missing m n f
  missing_is f =
      let same : missing_to t below ≡ newly_missing m n = λ i x. missing_to_is x i in
      ap (λ (o : Option Instance). option_and_then (missing_to t below) o) (stands f) ∙ ap (λ (g : Instance → Option ℕ). option_and_then g (instance_at f n)) same

  abbrev by : ℕ → Option ℕ
  by i = missing_by m t below i

  misses_here : (f to : ℕ) → DanglesNewly m n f to → is_some (missing_at t below f) ≡ true
  misses_here f to d = ap (λ (o : Option ℕ). is_some o) (missing_is f) ∙ misses m n f to d

  by_candidate : (i c : ℕ) → candidate m t below i ≡ Some c → is_some (missing_at t below c) ≡ true → by i ≡ Some c
  by_candidate i c e h = ap (option_and_then (λ d. if is_some (missing_at t below d) then Some d else None)) e ∙ ap (λ (b : Bool). if b then Some c else None) h

  -- an instance that is there
  by_itself : (f to : ℕ) (x : Instance) → DanglesNewly m n f to → instance_at f n ≡ Some x → list_any (λ e. edit_id e == f) es ≡ true → has f (froms by es) ≡ true
  by_itself f to x d here name =
      has_from by es f f name (by_candidate f f (ap (candidate_given f (first_unput t (holders m f)) (below f)) (stands f ∙ here)) (misses_here f to d))

  -- where nothing was put, all is as before
  unput_same : (i : ℕ) → put_at t i ≡ None → instance_at i n ≡ instance_at i m
  unput_same i e = sym (stands i) ∙ ap (λ (w : Option (Option Instance)). unwrap_or w (below i)) e ∙ stood i

  none_put : (i : ℕ) → not (is_some (put_at t i)) ≡ true → put_at t i ≡ None
  none_put i e =
      let F : Option (Option Instance) → Type 0 = λ w. not (is_some w) ≡ true → w ≡ None in
      let at : F (put_at t i) = elim (put_at t i) as F [ None ↦ λ k. refl | Some w ↦ λ k. absurd (false≢true k) ] in
      at e

  -- a holder of an id that was there and isn't now
  by_holder : (f to : ℕ) (x y : Instance) → put_at t f ≡ None → instance_at f m ≡ Some x → has to (references x) ≡ true → instance_at to m ≡ Some y → instance_at to n ≡ None → list_any (λ e. edit_id e == to) es ≡ true → (c : ℕ) × (has c (froms by es) ≡ true) × (c ≤ f)
  by_holder f to x y unput here refers was gone name =
      let among : has f (holders m to) ≡ true = member (holds to) m f before ∙ ap (passes (holds to)) here ∙ refers in
      let first = first_least (λ i. not (is_some (put_at t i))) f (holders m to) (ascends (holds to) m before) among (ap (λ (w : Option (Option Instance)). not (is_some w)) unput) in
      let c : ℕ = first.0 in
      let still : instance_at c n ≡ instance_at c m = unput_same c (none_put c first.3) in
      let holds_it : passes (holds to) (instance_at c n) ≡ true = ap (passes (holds to)) still ∙ sym (member (holds to) m c before) ∙ first.2 in
      let missing_now : is_present to n ≡ false = sym (found_present to n None gone) in
      let there_before : is_present to m ≡ true = sym (found_present to m (Some y) was) in
      let now : is_dangling n c to ≡ true = and_from _ _ (passed_by (instance_at c n) to holds_it) (ap not missing_now) in
      let then_not : is_dangling m c to ≡ false = ap (λ (b : Bool). option_map_or (λ z. has to (references z)) (instance_at c m) false && not b) there_before ∙ and_false (option_map_or (λ z. has to (references z)) (instance_at c m) false) in
      let given : candidate m t below to ≡ Some c = ap (λ (o : Option Instance). candidate_given to (first_unput t (holders m to)) o (over t below to)) (stood to ∙ was) ∙ ap (candidate_given to (first_unput t (holders m to)) (Some y)) (stands to ∙ gone) ∙ first.1 in
      (c, has_from by es to c name (by_candidate to c given (misses_here c to (now, then_not))), first.4)

  covered : (f to : ℕ) → DanglesNewly m n f to → (c : ℕ) × (has c (froms by es) ≡ true) × (c ≤ f)
  covered f to d =
      let now = there m n f to d.0 in
      let x : Instance = now.0 in
      let here : instance_at f n ≡ Some x = now.1 in
      let F : Option (Option Instance) → Type 0 = λ w. put_at t f ≡ w → (c : ℕ) × (has c (froms by es) ≡ true) × (c ≤ f) in
      let at : F (put_at t f) = elim (put_at t f) as F [
        | Some w ↦ λ e. (f, by_itself f to x d here (sym (named f) ∙ ap (λ (v : Option (Option Instance)). is_some v) e), omega arith)
        | None ↦ λ e.
            let same : instance_at f m ≡ Some x = sym (unput_same f e) ∙ here in
            let still : (has to (references x) && not (is_present to m)) ≡ false = sym (held_at m f x to same) ∙ d.1 in
            let was : is_present to m ≡ true = not-false _ (ap (λ (b : Bool). b && not (is_present to m)) (sym now.2) ∙ still) in
            let H : Option Instance → Type 0 = λ o. instance_at to n ≡ o → o ≡ None in
            let gone : H (instance_at to n) = elim (instance_at to n) as H [ None ↦ λ g. refl | Some z ↦ λ g. absurd (true≢false (found_present to n (Some z) g ∙ now.3)) ] in
            let none : instance_at to n ≡ None = gone refl in
            let K : Option (Option Instance) → Type 0 = λ w. put_at t to ≡ w → list_any (λ e. edit_id e == to) es ≡ true in
            let name : K (put_at t to) = elim (put_at t to) as K [
              | Some v ↦ λ g. sym (named to) ∙ ap (λ (v : Option (Option Instance)). is_some v) g
              | None ↦ λ g. absurd (false≢true (found_present to m None (sym (unput_same to g) ∙ none) ∙ was))
            ] in
            let G : Option Instance → Type 0 = λ o. instance_at to m ≡ o → (c : ℕ) × (has c (froms by es) ≡ true) × (c ≤ f) in
            let found : G (instance_at to m) = elim (instance_at to m) as G [
              | None ↦ λ g. absurd (false≢true (found_present to m None g ∙ was))
              | Some y ↦ λ g. by_holder f to x y e same now.2 g none (name refl)
            ] in
            found refl
      ] in
      at refl

  told_none : ((c : ℕ) → has c (froms by es) ≡ false) → TellsDangling m n None
  told_none h = λ f to d. let c = covered f to d in false≢true (sym (h c.0) ∙ c.1)

  told_some : (k to : ℕ) → has k (froms by es) ≡ true → ((c : ℕ) → has c (froms by es) ≡ true → k ≤ c) → TellsAt m n k (Some to) → TellsDangling m n (Some (Dangling k to))
  told_some k to h least_of at = (
    at.0,
    λ f u d.
        let c = covered f u d in
        let le : k ≤ f = let one : k ≤ c.0 = least_of c.0 c.1 in let two : c.0 ≤ f = c.2 in omega (arith, one, two) in
        elim (cases_lt k f) [
          | inl lt ↦ inl lt
          | inr ge ↦ let same : k ≡ f = omega (arith, le, ge) in inr (same, at.1 u (subst (λ (i : ℕ). DanglesNewly m n i u) (sym same) d))
        ],
  )

  module _ (law : DanglingIsLeast) where
    pub none_found : least_from m t below es ≡ None → None ≡ dangling m n
    none_found e = tell_same m n None (dangling m n) (told_none (subst (TellsLeast (froms by es)) e (least_tells (froms by es)))) (law m n after)

    pub one_found : (k to : ℕ) → least_from m t below es ≡ Some k → missing_at t below k ≡ Some to → Some (Dangling k to) ≡ dangling m n
    one_found k to e at =
        let tells : TellsLeast (froms by es) (Some k) = subst (TellsLeast (froms by es)) e (least_tells (froms by es)) in
        tell_same m n (Some (Dangling k to)) (dangling m n) (told_some k to tells.0 tells.1 (subst (TellsAt m n k) (sym (missing_is k) ∙ at) (missing_tells m n k))) (law m n after)

    -- the least of the candidates misses something
    pub not_lost : (k : ℕ) → least_from m t below es ≡ Some k → missing_at t below k ≡ None → ⊥
    not_lost k e at =
        let tells : TellsLeast (froms by es) (Some k) = subst (TellsLeast (froms by es)) e (least_tells (froms by es)) in
        let some : is_some (missing_at t below k) ≡ true = from_passed by (λ c. is_some (missing_at t below c)) (λ i c g. if_passed (λ d. is_some (missing_at t below d)) c (candidate m t below i) g) es k tells.0 in
        false≢true (ap (λ (o : Option ℕ). is_some o) (sym at) ∙ some)
