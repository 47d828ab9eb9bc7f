-- The audit from scratch, from the verdicts on the pairs alone.
use Rattle.std.proofs.Common.{◌≡◌, ℕ, ◌+◌, ◌<◌, suc, Bool, true, false, ◌&&◌, ◌==◌, cond, if◌then◌else◌, List, [], ◌∷◌, ◌++◌, map, filter, find, length, Option, Some, None, refl, arith, ap, subst, ◌∙◌}
use Rattle.std.specs.List.{filter_map, cons_option, list_all}
use Rattle.std.proofs.lemmas.Bool.{eq-eqb, ne_eqb, and_parts}
use Rattle.std.proofs.lemmas.List.{append-nil, append_assoc}
use Rattle.std.proofs.lemmas.List.Elements.{filter_map-append}
use Rattle.ifc_base.specs.declared.value.Instance.{Instance}
use Rattle.std.specs.Option.{option_map_or}
use Rattle.schema_table.specs.Schema.{Schema}
use Rattle.audit_model.specs.declared.facet.EntityFacet.{EntityFacet}
use Rattle.audit_model.specs.declared.facet.Facet.{Facet}
use Rattle.audit_model.specs.declared.facet.Facet.TheVariants.{Entity, Attribute, Property, Classification, Material, PartOf}
use Rattle.audit_model.specs.declared.specification.Occurs.{Occurs}
use Rattle.audit_model.specs.declared.specification.Specification.{Specification}
use Rattle.audit_model.specs.declared.verdict.Pair.{Pair}
use Rattle.audit_model.specs.declared.verdict.Verdict.{Verdict}
use Rattle.audit_model.specs.declared.verdict.Verdict.TheVariants.{NotApplicable}
use Rattle.audit_model.specs.declared.report.Tally.{Tally}
use Rattle.audit_model.specs.Models.{IsModel, AllAbove, instance_at}
use Rattle.restrictions.specs.declared.condition.Condition.{Condition}
use Rattle.restrictions.specs.Admitting.{admits_text}
use Rattle.audit_model.specs.Keys.{sight}
use Rattle.audit_model.specs.Paths.{SeenKind}
use Rattle.audit_model.specs.Facets.{entity_holds, admits_entity}
use Rattle.audit_model.specs.FacetLaws.{OthersNotApplicable}
use Rattle.audit_model.specs.Pairs.{pairs, pairs_of, may_apply, NumberedFrom}
use Rattle.audit_model.specs.Verdicts.{verdict, verdict_of, weigh, seen_for, assess_when, assess_found}
use Rattle.audit_model.specs.Scratch.{tally, tally_from, skipped_tally, scratch, applies, failing_of}
use Rattle.audit_model.proofs.Tests.{Each, Each-weaker}
use Rattle.audit_model.proofs.PairLists.{pair_with}

-- An instance is the one at its id.

at_above : (n : ℕ) (m : List Instance) → AllAbove n m → Each (λ y. n < y.id) m
at_above n [] h = tt
at_above n (y ∷ ys) h = (h.0, at_above n ys h.1)

found_later : (x : Instance) (xs : List Instance) (y : Instance) → (x.id < y.id) × (instance_at y.id xs ≡ Some y) → instance_at y.id (x ∷ xs) ≡ Some y
found_later x xs y h = let e : (x.id == y.id) ≡ false = ne_eqb _ _ (λ k. absurd (omega (arith, h.0, k))) in rw e h.1

both_of : {X : Type 0} (P Q : X → Type 0) (xs : List X) → Each P xs → Each Q xs → Each (λ x. P x × Q x) xs
both_of P Q [] p q = tt
both_of P Q (x ∷ xs) p q = ((p.0, q.0), both_of P Q xs p.1 q.1)

pub at_own : (m : List Instance) → IsModel m → Each (λ y. instance_at y.id m ≡ Some y) m
at_own [] h = tt
at_own (x ∷ xs) h =
    let own : (x.id == x.id) ≡ true = eq-eqb _ _ refl in
    (rw own, Each-weaker _ _ (found_later x xs) xs (both_of _ _ xs (at_above x.id xs h.0) (at_own xs h.1)))

-- Where a specification makes no pair with an instance, it isn't applicable to it.

-- the facet holds of the element with this id
abbrev holds_of : Schema → List Instance → ℕ → Facet → Bool
holds_of s m e f = ((weigh s f e).answer (sight s m)).holds

entity_admits : (s : Schema) (f : EntityFacet) (seen : SeenKind) (x : Instance) → seen.itself ≡ Some x → entity_holds s f seen ≡ true → admits_text f.name x.entity ≡ true
entity_admits s f seen x at h = subst (λ (o : Option Instance). option_map_or (λ y. admits_text f.name y.entity) o false ≡ true) at (and_parts (option_map_or (λ y. admits_text f.name y.entity) seen.itself false) _ h).0

seen_itself : (s : Schema) (o : Option Condition) (e : ℕ) (m : List Instance) → ((seen_for s o e).answer (sight s m)).itself ≡ instance_at e m
seen_itself s None e m = refl
seen_itself s (Some c) e m = refl

facet_admits : (s : Schema) (f : Facet) (x : Instance) (m : List Instance) → instance_at x.id m ≡ Some x → holds_of s m x.id f ≡ true → admits_entity x.entity f ≡ true
facet_admits s (Entity f) x m at h = entity_admits s f ((seen_for s f.predefined x.id).answer (sight s m)) x (seen_itself s f.predefined x.id m ∙ at) h
facet_admits s (Attribute f) x m at h = refl
facet_admits s (Property f) x m at h = refl
facet_admits s (Classification f) x m at h = refl
facet_admits s (Material f) x m at h = refl
facet_admits s (PartOf f) x m at h = refl

all_weighed : (s : Schema) (fs : List Facet) (e : ℕ) (m : List Instance) → list_all (λ w. w.holds) (map (λ f. (weigh s f e).answer (sight s m)) fs) ≡ list_all (holds_of s m e) fs
all_weighed s [] e m = refl
all_weighed s (f ∷ fs) e m = ap (λ (b : Bool). holds_of s m e f && b) (all_weighed s fs e m)

none_holds : (s : Schema) (fs : List Facet) (x : Instance) (m : List Instance) → instance_at x.id m ≡ Some x → list_all (admits_entity x.entity) fs ≡ false → list_all (holds_of s m x.id) fs ≡ false
none_holds s [] x m at h = h
none_holds s (f ∷ fs) x m at h =
    let F : Bool → Type 0 = λ b. holds_of s m x.id f ≡ b → (b && list_all (holds_of s m x.id) fs) ≡ false in
    let G : F (holds_of s m x.id f) = elim (holds_of s m x.id f) as F [
      | true ↦ λ e. none_holds s fs x m at (subst (λ (b : Bool). (b && list_all (admits_entity x.entity) fs) ≡ false) (facet_admits s f x m at e) h)
      | false ↦ λ e. refl
    ] in
    G refl

pub others_not_applicable : OthersNotApplicable
unfolding verdict_of
others_not_applicable s q x m at f =
    let e : list_all (λ w. w.holds) (map (λ g. (weigh s g x.id).answer (sight s m)) q.applicability) ≡ false = all_weighed s q.applicability x.id m ∙ none_holds s q.applicability x m at f in
    ap (λ (b : Bool). (assess_when s b q x.id).answer (sight s m)) e

-- A tally goes by the applicable verdicts.

abbrev verdict_at : Schema → Specification → List Instance → Instance → ℕ × Verdict
verdict_at s q m x = (x.id, verdict_of s q x.id m)

tally_skip : (o : Occurs) (e : ℕ) (v : Verdict) (vs : List (ℕ × Verdict)) → v ≡ NotApplicable → tally_from o vs ≡ tally_from o ((e, v) ∷ vs)
tally_skip o e v vs h = rw h

longer : {X : Type 0} (b : Bool) (x : X) (us vs : List X) → length us ≡ length vs → length (cond b (x ∷ us) us) ≡ length (cond b (x ∷ vs) vs)
longer true x us vs h = ap suc h
longer false x us vs h = h

tally_next : (o : Occurs) (v : ℕ × Verdict) (us vs : List (ℕ × Verdict)) → tally_from o us ≡ tally_from o vs → tally_from o (v ∷ us) ≡ tally_from o (v ∷ vs)
tally_next o v us vs h =
    λ i. record {
      skipped = false;
      occurs = o;
      applicable = longer (applies v.1) v (filter (λ (w : ℕ × Verdict). applies w.1) us) (filter (λ (w : ℕ × Verdict). applies w.1) vs) (ap (λ (t : Tally). t.applicable) h) i;
      failing = cons_option (failing_of o v.0 v.1) (h i).failing;
    }

tally_filter : (s : Schema) (q : Specification) (m xs : List Instance) → Each (λ y. instance_at y.id m ≡ Some y) xs → tally_from q.occurs (map (verdict_at s q m) (filter (λ x. may_apply q x.entity) xs)) ≡ tally_from q.occurs (map (verdict_at s q m) xs)
tally_filter s q m [] h = refl
tally_filter s q m (x ∷ xs) h =
    let rest : tally_from q.occurs (map (verdict_at s q m) (filter (λ x. may_apply q x.entity) xs)) ≡ tally_from q.occurs (map (verdict_at s q m) xs) = tally_filter s q m xs h.1 in
    let F : Bool → Type 0 = λ b. may_apply q x.entity ≡ b → tally_from q.occurs (map (verdict_at s q m) (cond b (x ∷ filter (λ y. may_apply q y.entity) xs) (filter (λ y. may_apply q y.entity) xs))) ≡ tally_from q.occurs (map (verdict_at s q m) (x ∷ xs)) in
    let at : F (may_apply q x.entity) = elim (may_apply q x.entity) as F [
      | true ↦ λ e. tally_next q.occurs (verdict_at s q m x) (map (verdict_at s q m) (filter (λ y. may_apply q y.entity) xs)) (map (verdict_at s q m) xs) rest
      | false ↦ λ e. rest ∙ tally_skip q.occurs x.id (verdict_of s q x.id m) (map (verdict_at s q m) xs) (others_not_applicable s q x m h.0 e)
    ] in
    at refl

-- The verdicts on the pairs of one number.

abbrev pub pair_verdict : Schema → List Specification → List Instance → ℕ → Pair → Option (ℕ × Verdict)
pair_verdict s specs m n p = if p.spec == n then Some (p.elem, verdict s specs p m) else None

abbrev pub pair_verdicts : Schema → List Specification → List Instance → ℕ → List Pair → List (ℕ × Verdict)
pair_verdicts s specs m n ps = filter_map (pair_verdict s specs m n) ps

own_verdict : (s : Schema) (specs : List Specification) (q : Specification) (m : List Instance) (x : Instance) → find (λ z. z.number == q.number) specs ≡ Some q → verdict s specs (pair_with q x) m ≡ verdict_of s q x.id m
unfolding verdict verdict_of
own_verdict s specs q m x e = λ i. (assess_found s (e i) x.id).answer (sight s m)

verdicts_own : (s : Schema) (specs : List Specification) (q : Specification) (m xs : List Instance) → find (λ z. z.number == q.number) specs ≡ Some q → pair_verdicts s specs m q.number (map (pair_with q) xs) ≡ map (verdict_at s q m) xs
verdicts_own s specs q m [] e = refl
verdicts_own s specs q m (x ∷ xs) e =
    let own : (q.number == q.number) ≡ true = eq-eqb _ _ refl in
    let here : pair_verdict s specs m q.number (pair_with q x) ≡ Some (verdict_at s q m x) = rw own (λ i. Some (x.id, own_verdict s specs q m x e i)) in
    λ i. cons_option (here i) (verdicts_own s specs q m xs e i)

-- none of these pairs has the number
abbrev NoneOf : ℕ → List Pair → Type 0
NoneOf n ps = Each (λ p. (p.spec == n) ≡ false) ps

verdicts_none : (s : Schema) (specs : List Specification) (m : List Instance) (n : ℕ) (ps : List Pair) → NoneOf n ps → pair_verdicts s specs m n ps ≡ []
verdicts_none s specs m n [] h = refl
verdicts_none s specs m n (p ∷ ps) h = rw (h.0, verdicts_none s specs m n ps h.1)

-- what holds of the number of a specification holds of its pairs
each_made : (P : ℕ → Type 0) (q : Specification) (xs : List Instance) → P q.number → Each (λ p. P p.spec) (map (pair_with q) xs)
each_made P q [] h = tt
each_made P q (x ∷ xs) h = (h, each_made P q xs h)

each_of : (P : ℕ → Type 0) (q : Specification) (m : List Instance) → P q.number → Each (λ p. P p.spec) (pairs_of q m)
each_of P q m h =
    let F : Bool → Type 0 = λ b. Each (λ (p : Pair). P p.spec) (if b then map (pair_with q) (filter (λ x. may_apply q x.entity) m) else []) in
    elim q.for_model as F [ true ↦ each_made P q _ h | false ↦ tt ]

Each-append : {X : Type 0} (P : X → Type 0) (xs ys : List X) → Each P xs → Each P ys → Each P (xs ++ ys)
Each-append P [] ys a b = b
Each-append P (x ∷ xs) ys a b = (a.0, Each-append P xs ys a.1 b)

none_above : (n k : ℕ) (qs : List Specification) (m : List Instance) → NumberedFrom n qs → k < n → NoneOf k (pairs qs m)
none_above n k [] m h l = tt
none_above n k (q ∷ qs) m h l =
    Each-append _ (pairs_of q m) (pairs qs m) (each_of (λ z. (z == k) ≡ false) q m (ne_eqb _ _ (λ e. absurd (omega (arith, h.0, e, l))))) (none_above (n + 1) k qs m h.1 (omega (arith, l)))

-- each specification is the one of its number
later_found : (q : Specification) (qs : List Specification) (n : ℕ) → q.number ≡ n → (x : Specification) → (n < x.number) × (find (λ z. z.number == x.number) qs ≡ Some x) → find (λ z. z.number == x.number) (q ∷ qs) ≡ Some x
later_found q qs n e x h = let f : (q.number == x.number) ≡ false = ne_eqb _ _ (λ k. absurd (omega (arith, h.0, k, e))) in rw f h.1

numbers_above : (n k : ℕ) (qs : List Specification) → NumberedFrom n qs → k < n → Each (λ x. k < x.number) qs
numbers_above n k [] h l = tt
numbers_above n k (q ∷ qs) h l = (omega (arith, h.0, l), numbers_above (n + 1) k qs h.1 (omega (arith, l)))

pub found_each : (n : ℕ) (qs : List Specification) → NumberedFrom n qs → Each (λ x. find (λ z. z.number == x.number) qs ≡ Some x) qs
found_each n [] h = tt
found_each n (q ∷ qs) h =
    let own : (q.number == q.number) ≡ true = eq-eqb _ _ refl in
    (rw own, Each-weaker _ _ (later_found q qs n h.0) qs (both_of _ _ qs (numbers_above (n + 1) n qs h.1 (omega arith)) (found_each (n + 1) qs h.1)))

-- the tally of a specification by the verdicts on these pairs
abbrev pub tally_by : Schema → List Specification → List Instance → List Pair → Specification → Tally
tally_by s specs m ps q = if q.for_model then tally_from q.occurs (pair_verdicts s specs m q.number ps) else skipped_tally q.occurs

one_tally : (s : Schema) (specs : List Specification) (m : List Instance) (q : Specification) (front back : List Pair) → IsModel m → find (λ z. z.number == q.number) specs ≡ Some q → NoneOf q.number front → NoneOf q.number back → tally_by s specs m (front ++ (pairs_of q m ++ back)) q ≡ tally s q m
one_tally s specs m q front back h e a b =
    let own : List Pair = map (pair_with q) (filter (λ x. may_apply q x.entity) m) in
    let F : Bool → Type 0 = λ c. (if c then tally_from q.occurs (pair_verdicts s specs m q.number (front ++ ((if c then own else []) ++ back))) else skipped_tally q.occurs) ≡ (if c then tally_from q.occurs (map (verdict_at s q m) m) else skipped_tally q.occurs) in
    elim q.for_model as F [
      | true ↦ verdicts_between s specs m q front own back (map (verdict_at s q m) m) (filter (λ x. may_apply q x.entity) m) refl e a b (tally_filter s q m m (at_own m h))
      | false ↦ refl
    ] where
      verdicts_between : (s : Schema) (specs : List Specification) (m : List Instance) (q : Specification) (front own back : List Pair) (all : List (ℕ × Verdict)) (xs : List Instance) → own ≡ map (pair_with q) xs → find (λ z. z.number == q.number) specs ≡ Some q → NoneOf q.number front → NoneOf q.number back → tally_from q.occurs (map (verdict_at s q m) xs) ≡ tally_from q.occurs all → tally_from q.occurs (pair_verdicts s specs m q.number (front ++ (own ++ back))) ≡ tally_from q.occurs all
      verdicts_between s specs m q front own back all xs is e a b same =
          rw (filter_map-append (pair_verdict s specs m q.number) front (own ++ back), filter_map-append (pair_verdict s specs m q.number) own back, verdicts_none s specs m q.number front a, verdicts_none s specs m q.number back b, is, verdicts_own s specs q m xs e, append-nil (map (verdict_at s q m) xs))
          same

-- the pairs in front have lower numbers
abbrev AllBelow : ℕ → List Pair → Type 0
AllBelow n ps = Each (λ p. p.spec < n) ps

none_below : (n : ℕ) (ps : List Pair) → AllBelow n ps → NoneOf n ps
none_below n ps h = Each-weaker _ _ (λ p l. ne_eqb _ _ (λ e. absurd (omega (arith, l, e)))) ps h

tallies_from : (s : Schema) (specs : List Specification) (m : List Instance) (n : ℕ) (qs : List Specification) (front : List Pair) → IsModel m → NumberedFrom n qs → Each (λ x. find (λ z. z.number == x.number) specs ≡ Some x) qs → AllBelow n front → map (tally_by s specs m (front ++ pairs qs m)) qs ≡ map (λ q. tally s q m) qs
tallies_from s specs m n [] front h k e b = refl
tallies_from s specs m n (q ∷ qs) front h k e b =
    let head : tally_by s specs m (front ++ (pairs_of q m ++ pairs qs m)) q ≡ tally s q m =
    one_tally s specs m q front (pairs qs m) h e.0 (rw k.0 (none_below n front b)) (rw k.0 (none_above (n + 1) n qs m k.1 (omega arith))) in
    let more : AllBelow (n + 1) (front ++ pairs_of q m) = Each-append _ front (pairs_of q m) (Each-weaker _ _ (λ p l. omega (arith, l)) front b) (each_of (λ z. z < n + 1) q m (omega (arith, k.0))) in
    let rest : map (tally_by s specs m ((front ++ pairs_of q m) ++ pairs qs m)) qs ≡ map (λ x. tally s x m) qs = tallies_from s specs m (n + 1) qs (front ++ pairs_of q m) h k.1 e.1 more in
    let rest' : map (tally_by s specs m (front ++ (pairs_of q m ++ pairs qs m))) qs ≡ map (λ x. tally s x m) qs = subst (λ (ps : List Pair). map (tally_by s specs m ps) qs ≡ map (λ x. tally s x m) qs) (append_assoc front (pairs_of q m) (pairs qs m)) rest in
    λ i. head i ∷ rest' i

-- the audit from scratch is that of the verdicts on the pairs
pub tallies_by_pairs : (s : Schema) (specs : List Specification) (m : List Instance) → NumberedFrom 1 specs → IsModel m → map (tally_by s specs m (pairs specs m)) specs ≡ scratch s specs m
unfolding scratch
tallies_by_pairs s specs m k h = tallies_from s specs m 1 specs [] h k (found_each 1 specs k) tt
