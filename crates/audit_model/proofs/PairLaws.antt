-- Where a commit keeps what a pair's verdict needs, it stays a pair.
use Rattle.std.proofs.Common.{◌≡◌, ℕ, Bool, true, false, ◌&&◌, ◌||◌, ◌==◌, cond, ◌⊎◌, List, [], ◌∷◌, map, filter, Option, Some, None, refl, arith, ap, sym, subst, ◌∙◌, inl, inr, length}
use Rattle.std.specs.List.{list_any, flat_map}
use Rattle.std.proofs.lemmas.Bool.{and_parts, eqb-true, ne_eqb, and_right, cases_lt}
use Rattle.std.proofs.lemmas.List.Folds.{list_any-append}
use Rattle.ifc_base.specs.declared.value.Instance.{Instance}
use Rattle.schema_table.specs.Schema.{Schema}
use Rattle.audit_model.specs.declared.commit.Edit.{Edit}
use Rattle.audit_model.specs.declared.verdict.Pair.{Pair}
use Rattle.audit_model.specs.declared.step.Given.{Given}
use Rattle.audit_model.specs.declared.specification.Specification.{Specification}
use Rattle.audit_model.specs.Models.{IsModel, AllAbove, instance_at, is_present}
use Rattle.audit_model.specs.Edits.{apply}
use Rattle.audit_model.specs.Keys.{keeps_all}
use Rattle.audit_model.specs.Needs.{need}
use Rattle.audit_model.specs.Pairs.{same_pair, is_pair, pairs, pairs_of}
use Rattle.audit_model.proofs.PairLists.{makes, pair_with, made_of, pairs_made, pairs_of_made}
use Rattle.audit_model.specs.History.{Ground, AllModels, model_after, model_of, stands_by, settled_by}
use Rattle.audit_model.proofs.Tests.{Each, list_any-agree, list_any-and, or_true}
use Rattle.audit_model.proofs.Apart.{same_pair-true}
use Rattle.audit_model.specs.FacetLaws.{Stays, PairsAreThere}
use Rattle.audit_model.proofs.Frame.{same_at}
use Rattle.audit_model.proofs.Commits.{model_of-older, model_of-newest, stands-commit, stands_found}
use Rattle.audit_model.proofs.Claims.{IsSound}

-- Whether a place of a model makes a pair.

abbrev one_at : Specification → Pair → Option Instance → Bool
one_at q p None = false
one_at q p (Some x) = (q.number == p.spec) && makes q x

abbrev pair_at : List Specification → Pair → Option Instance → Bool
pair_at specs p o = list_any (λ q. one_at q p o) specs

none_at : (n : ℕ) (m : List Instance) → AllAbove n m → instance_at n m ≡ None
none_at n [] h = refl
none_at n (x ∷ xs) h = let e : (x.id == n) ≡ false = ne_eqb _ _ (λ k. absurd (omega (arith, h.0, k))) in rw e (none_at n xs h.1)

any_flat : {X Y : Type 0} (t : Y → Bool) (f : X → List Y) (xs : List X) → list_any t (flat_map f xs) ≡ list_any (λ x. list_any t (f x)) xs
any_flat t f [] = refl
any_flat t f (x ∷ xs) = rw (list_any-append t (f x) (flat_map f xs), any_flat t f xs)

-- of one specification, a being whether the numbers are the same
step_one : (a b c : Bool) (rest : Bool) (x : Instance) (o : Option Instance) (q : Specification) (p : Pair) → (q.number == p.spec) ≡ a → makes q x ≡ b → (c ≡ true → o ≡ None) → rest ≡ one_at q p o → (cond b ((a && c) || rest) rest) ≡ one_at q p (cond c (Some x) o)
step_one a b false rest x o q p e f n r = elim b as (λ b'. cond b' ((a && false) || rest) rest ≡ one_at q p o) [ true ↦ rw (and_right a false refl) r | false ↦ r ]
step_one a b true rest x o q p e f n r =
    let none : rest ≡ false = r ∙ ap (λ (z : Option Instance). one_at q p z) (n refl) in
    subst (λ (z : Bool). cond b ((a && true) || z) z ≡ ((q.number == p.spec) && makes q x)) (sym none) (last a b ∙ (λ i. sym e i && sym f i)) where
      last : (a b : Bool) → cond b ((a && true) || false) false ≡ (a && b)
      last true true = refl
      last true false = refl
      last false true = refl
      last false false = refl

any_cond : (t : Pair → Bool) (q : Specification) (x : Instance) (xs : List Instance) (b : Bool) → list_any t (map (pair_with q) (cond b (x ∷ xs) xs)) ≡ cond b (t (pair_with q x) || list_any t (map (pair_with q) xs)) (list_any t (map (pair_with q) xs))
any_cond t q x xs true = refl
any_cond t q x xs false = refl

one_is : (q : Specification) (p : Pair) (m : List Instance) → IsModel m → list_any (λ r. same_pair r p) (made_of q m) ≡ one_at q p (instance_at p.elem m)
one_is q p [] h = refl
one_is q p (x ∷ xs) h =
    any_cond (λ r. same_pair r p) q x (filter (makes q) xs) (makes q x)
    ∙ step_one (q.number == p.spec) (makes q x) (x.id == p.elem) _ x (instance_at p.elem xs) q p refl refl (λ e. subst (λ (n : ℕ). instance_at n xs ≡ None) (eqb-true _ _ e) (none_at x.id xs h.0)) (one_is q p xs h.1)

any_same : {X : Type 0} (f g : X → Bool) → ((x : X) → f x ≡ g x) → (xs : List X) → list_any f xs ≡ list_any g xs
any_same f g h [] = refl
any_same f g h (x ∷ xs) = rw (h x, any_same f g h xs)

is_pair_at : (specs : List Specification) (m : List Instance) (p : Pair) → IsModel m → is_pair specs m p ≡ pair_at specs p (instance_at p.elem m)
is_pair_at specs m p h =
    ap (λ (ps : List Pair). list_any (λ r. same_pair r p) ps) (pairs_made specs m)
    ∙ any_flat (λ r. same_pair r p) (λ q. made_of q m) specs
    ∙ any_same _ _ (λ q. one_is q p m h) specs

pub pair_stays : (s : Schema) (specs : List Specification) (p : Pair) (m n : List Instance) → IsModel m → IsModel n → keeps_all s m n (need s specs p m) ≡ true → is_pair specs n p ≡ is_pair specs m p
pair_stays s specs p m n hm hn e =
    is_pair_at specs n p hn ∙ ap (λ (o : Option Instance). pair_at specs p o) (sym (same_at s specs p m n e)) ∙ sym (is_pair_at specs m p hm)

-- Over commits.

pub model_now : (g : Ground) (cs : List (List Edit)) → AllModels g cs → IsModel (model_after g cs)
model_now g [] h = h
model_now g (edits ∷ cs) h = h.0

-- a claim that stands is of a pair of now
pub stands_pair : (g : Ground) (cs : List (List Edit)) (c : Given) → AllModels g cs → IsSound g cs c → stands_by g cs c ≡ true → is_pair g.specs (model_after g cs) c.pair ≡ true
stands_pair g [] c h s e = s.of_pair
stands_pair g (edits ∷ cs) c h s e =
    elim (cases_lt (length cs) c.revision) [
      | inl lt ↦ rw (model_of-newest g edits cs c.revision lt) at s.of_pair
      | inr le ↦
          let both : (keeps_all g.schema (model_after g cs) (apply g.schema (model_after g cs) edits) (need g.schema g.specs c.pair (model_of g cs c.revision)) ≡ true) × (stands_by g cs c ≡ true) = and_parts _ _ (sym (stands-commit g edits cs c le) ∙ e) in
          let t : Stays g.schema g.specs c.pair (model_of g cs c.revision) (model_after g cs) = stands_found g cs c le both.1 in
          let sound : IsSound g cs c = record { early = le; of_pair = rw (model_of-older g edits cs c.revision le) at s.of_pair } in
          let before : is_pair g.specs (model_after g cs) c.pair ≡ true = stands_pair g cs c h.1 sound both.1 in
          pair_stays g.schema g.specs c.pair (model_after g cs) (apply g.schema (model_after g cs) edits) (model_now g cs h.1) h.0 (rw t.need_stays both.0) ∙ before
    ]

abbrev pub AllSound : Ground → List (List Edit) → List Given → Type 0
AllSound g cs xs = Each (IsSound g cs) xs

pub settled_pair : (g : Ground) (cs : List (List Edit)) (us : List Given) (p : Pair) → AllModels g cs → AllSound g cs us → settled_by g cs us p ≡ true → is_pair g.specs (model_after g cs) p ≡ true
settled_pair g cs [] p h s e = absurd (cc)
settled_pair g cs (u ∷ us) p h s e =
    let F : Bool → Type 0 = λ b. (same_pair u.pair p && stands_by g cs u) ≡ b → (b || settled_by g cs us p) ≡ true → is_pair g.specs (model_after g cs) p ≡ true in
    let at : F (same_pair u.pair p && stands_by g cs u) = elim (same_pair u.pair p && stands_by g cs u) as F [
      | true ↦ λ f k. let both : (same_pair u.pair p ≡ true) × (stands_by g cs u ≡ true) = and_parts _ _ f in
          rw (← same_pair-true u.pair p both.0) (stands_pair g cs u h s.0 both.1)
      | false ↦ λ f k. settled_pair g cs us p h s.1 k
    ] in
    at refl e

use_commit : (g : Ground) (edits : List Edit) (cs : List (List Edit)) (p : Pair) (u : Given) → IsSound g cs u → (same_pair u.pair p && stands_by g (edits ∷ cs) u) ≡ ((same_pair u.pair p && stands_by g cs u) && keeps_all g.schema (model_after g cs) (apply g.schema (model_after g cs) edits) (need g.schema g.specs p (model_after g cs)))
use_commit g edits cs p u s =
    let m : List Instance = model_after g cs in
    let n : List Instance = apply g.schema (model_after g cs) edits in
    let F : Bool → Type 0 = λ a. same_pair u.pair p ≡ a → (a && stands_by g (edits ∷ cs) u) ≡ ((a && stands_by g cs u) && keeps_all g.schema m n (need g.schema g.specs p m)) in
    let G : Bool → Type 0 = λ b. stands_by g cs u ≡ b → u.pair ≡ p → (keeps_all g.schema m n (need g.schema g.specs u.pair (model_of g cs u.revision)) && b) ≡ (b && keeps_all g.schema m n (need g.schema g.specs p m)) in
    let inner : G (stands_by g cs u) = elim (stands_by g cs u) as G [
      | true ↦ λ f k. let t : Stays g.schema g.specs u.pair (model_of g cs u.revision) m = stands_found g cs u s.early f in
          rw (← k, t.need_stays) (and_true _)
      | false ↦ λ f k. and_right _ false refl
    ] in
    let at : F (same_pair u.pair p) = elim (same_pair u.pair p) as F [
      | true ↦ λ f. stands-commit g edits cs u s.early ∙ inner refl (same_pair-true u.pair p f)
      | false ↦ λ f. refl
    ] in
    at refl where
      and_true : (b : Bool) → (b && true) ≡ b
      and_true true = refl
      and_true false = refl

uses_commit : (g : Ground) (edits : List Edit) (cs : List (List Edit)) (p : Pair) (us : List Given) → AllSound g cs us → Each (λ u. (same_pair u.pair p && stands_by g (edits ∷ cs) u) ≡ ((same_pair u.pair p && stands_by g cs u) && keeps_all g.schema (model_after g cs) (apply g.schema (model_after g cs) edits) (need g.schema g.specs p (model_after g cs)))) us
uses_commit g edits cs p [] s = tt
uses_commit g edits cs p (u ∷ us) s = (use_commit g edits cs p u s.0, uses_commit g edits cs p us s.1)

-- A commit leaves settled just the pairs that were, of which it keeps what their verdict needs.
pub settled_commit : (g : Ground) (edits : List Edit) (cs : List (List Edit)) (us : List Given) (p : Pair) → AllSound g cs us → settled_by g (edits ∷ cs) us p ≡ (settled_by g cs us p && keeps_all g.schema (model_after g cs) (apply g.schema (model_after g cs) edits) (need g.schema g.specs p (model_after g cs)))
settled_commit g edits cs us p s =
    list_any-agree _ _ us (uses_commit g edits cs p us s)
    ∙ list_any-and (λ u. same_pair u.pair p && stands_by g cs u) (keeps_all g.schema (model_after g cs) (apply g.schema (model_after g cs) edits) (need g.schema g.specs p (model_after g cs))) us

-- The element of a pair is there.

makes_there : (q : Specification) (p : Pair) (m : List Instance) → list_any (λ r. same_pair r p) (map (pair_with q) m) ≡ true → is_present p.elem m ≡ true
makes_there q p [] e = e
makes_there q p (x ∷ xs) e =
    elim (either_of (same_pair (pair_with q x) p) (list_any (λ r. same_pair r p) (map (pair_with q) xs)) e) [
      | inl here ↦ ap (λ (b : Bool). b || is_present p.elem xs) (and_parts _ _ here).1
      | inr later ↦ ap (λ (b : Bool). (x.id == p.elem) || b) (makes_there q p xs later) ∙ or_true (x.id == p.elem)
    ] where
      either_of : (a b : Bool) → (a || b) ≡ true → (a ≡ true) ⊎ (b ≡ true)
      either_of true b e = inl refl
      either_of false b e = inr e

kept_there : (p : Instance → Bool) (i : ℕ) (m : List Instance) → is_present i (filter p m) ≡ true → is_present i m ≡ true
kept_there p i [] e = e
kept_there p i (x ∷ xs) e =
    let F : Bool → Type 0 = λ b. is_present i (cond b (x ∷ filter p xs) (filter p xs)) ≡ true → ((x.id == i) || is_present i xs) ≡ true in
    let at : F (p x) = elim (p x) as F [
      | true ↦ λ k. grown (x.id == i) (is_present i (filter p xs)) (is_present i xs) (kept_there p i xs) k
      | false ↦ λ k. ap (λ (b : Bool). (x.id == i) || b) (kept_there p i xs k) ∙ or_true (x.id == i)
    ] in
    at e where
      grown : (a b c : Bool) → (b ≡ true → c ≡ true) → (a || b) ≡ true → (a || c) ≡ true
      grown true b c f e = refl
      grown false b c f e = f e

pub pairs_are_there : PairsAreThere
pairs_are_there [] m p e = absurd (cc)
pairs_are_there (q ∷ qs) m p e =
    elim (either_in (list_any (λ r. same_pair r p) (pairs_of q m)) _ (sym (list_any-append (λ r. same_pair r p) (pairs_of q m) (pairs qs m)) ∙ e)) [
      | inl here ↦ kept_there (makes q) p.elem m (makes_there q p (filter (makes q) m) (ap (λ (ps : List Pair). list_any (λ r. same_pair r p) ps) (sym (pairs_of_made q m)) ∙ here))
      | inr later ↦ pairs_are_there qs m p later
    ] where
      either_in : (a b : Bool) → (a || b) ≡ true → (a ≡ true) ⊎ (b ≡ true)
      either_in true b e = inl refl
      either_in false b e = inr e
