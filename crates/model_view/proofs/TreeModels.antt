-- The model that a tree holds, and the tree after one change.
use Rattle.std.proofs.Common.{◌≡◌, ℕ, suc, ◌<◌, ◌==◌, Bool, true, false, cond, if◌then◌else◌, List, [], ◌∷◌, ◌++◌, map, length, Option, Some, None, refl, sym, subst, ap, ◌∙◌, arith}
use Rattle.std.proofs.lemmas.Bool.{eqb-true, eqb-false, ne_eqb, eq-eqb}
use Rattle.std.proofs.lemmas.List.{map-append}
use Rattle.std.specs.Ordering.{nat_cmp, eq_by_cmp}
use Rattle.std.specs.Cmp.{nat_cmp_total, unsigned_ties}
use Rattle.std.specs.FinMap.{FinMap, find, get, len, entries, insert, remove, entries_sorted, get-entries, get-insert, get-remove, len-entries}
use Rattle.ifc_base.specs.declared.value.Instance.{Instance}
use Rattle.audit_model.specs.Models.{IsModel, AllAbove, instance_at}
use Rattle.tree_map.specs.Ordered.{AreAbove, Rises, rises_of, rises_is}
use Rattle.tree_map.specs.Pairs.{AreBelow, IsAscending}
use Rattle.inverse_index.specs.Index.{replaced, HasId}
use Rattle.inverse_index.proofs.Models.{at_replaced, model_replaced, same_models}
use Rattle.model_view.specs.Trees.{beside_ids, IsById, model_of}

abbrev AreKeyed : List (ℕ × Instance) → Type 0
AreKeyed [] = Unit {0}
AreKeyed (e ∷ es) = (e.1.id ≡ e.0) × AreKeyed es

missing_above : (k : ℕ) (es : List (ℕ × Instance)) → AreAbove k es → find nat_cmp k es ≡ None
missing_above k [] h = refl
missing_above k (e ∷ es) h = rw (sym (unsigned_ties k e.0) ∙ ne_eqb k e.0 (omega (arith, h.0))) (missing_above k es h.1)

keyed_of : (es : List (ℕ × Instance)) → Rises es → ((k : ℕ) (x : Instance) → find nat_cmp k es ≡ Some x → x.id ≡ k) → AreKeyed es
keyed_of [] h e = tt
keyed_of (f ∷ es) h e = (
  e f.0 f.1 (rw (sym (unsigned_ties f.0 f.0) ∙ eq-eqb f.0 f.0 refl) refl),
  keyed_of es h.1 (λ k x i.
      let F : Bool → Type 0 = λ b. (k == f.0) ≡ b → x.id ≡ k in
      let at : F (k == f.0) = elim (k == f.0) as F [
        | true ↦ λ t. absurd (let none : find nat_cmp k es ≡ None = missing_above k es (subst (λ j. AreAbove j es) (sym (eqb-true k f.0 t)) h.0) in cc)
        | false ↦ λ t. e k x (ap (λ b. cond b (Some f.1) (find nat_cmp k es)) (sym (unsigned_ties k f.0) ∙ t) ∙ i)
      ] in
      at refl),
)

above_ids : (k : ℕ) (es : List (ℕ × Instance)) → AreKeyed es → AreAbove k es → AllAbove k (map (λ (e : ℕ × Instance). e.1) es)
above_ids k [] h a = tt
above_ids k (e ∷ es) h a = (omega (arith, h.0, a.0), above_ids k es h.1 a.1)

ids_rise : (es : List (ℕ × Instance)) → AreKeyed es → Rises es → IsModel (map (λ (e : ℕ × Instance). e.1) es)
ids_rise [] h r = tt
ids_rise (e ∷ es) h r = (subst (λ j. AllAbove j (map (λ (e : ℕ × Instance). e.1) es)) (sym h.0) (above_ids e.0 es h.1 r.0), ids_rise es h.1 r.1)

found_at : (es : List (ℕ × Instance)) (i : ℕ) → AreKeyed es → find nat_cmp i es ≡ instance_at i (map (λ (e : ℕ × Instance). e.1) es)
found_at [] i h = refl
found_at (e ∷ es) i h =
    ap (λ b. cond b (Some e.1) (find nat_cmp i es)) (sym (unsigned_ties i e.0) ∙ swapped i e.0 ∙ ap (λ j. j == i) (sym h.0))
    ∙ ap (λ o. cond (e.1.id == i) (Some e.1) o) (found_at es i h.1)
  where
    swapped : (a b : ℕ) → (a == b) ≡ (b == a)
    swapped a b =
        let F : Bool → Type 0 = λ t. (a == b) ≡ t → t ≡ (b == a) in
        let at : F (a == b) = elim (a == b) as F [ true ↦ λ t. sym (eq-eqb b a (sym (eqb-true a b t))) | false ↦ λ t. sym (ne_eqb b a (λ s. eqb-false a b t (sym s))) ] in
        at refl

keyed : (t : FinMap nat_cmp Instance) → IsById t → AreKeyed (entries t)
keyed t h = keyed_of (entries t) (rises_of (entries t) (entries_sorted t)) (λ k x e. h k x (get-entries t k ∙ e))

-- the instances of a tree are a model, with at each id what stands under it
pub model_is : (t : FinMap nat_cmp Instance) → IsById t → IsModel (model_of t)
unfolding model_of
model_is t h = ids_rise (entries t) (keyed t h) (rises_of (entries t) (entries_sorted t))

pub get_is : (t : FinMap nat_cmp Instance) (i : ℕ) → IsById t → get t i ≡ instance_at i (model_of t)
unfolding model_of
get_is t i h = get-entries t i ∙ found_at (entries t) i (keyed t h)

tied : (q k : ℕ) → eq_by_cmp nat_cmp q k ≡ (k == q)
tied q k = sym (unsigned_ties q k) ∙ swapped q k
  where
    swapped : (a b : ℕ) → (a == b) ≡ (b == a)
    swapped a b =
        let F : Bool → Type 0 = λ t. (a == b) ≡ t → t ≡ (b == a) in
        let at : F (a == b) = elim (a == b) as F [ true ↦ λ t. sym (eq-eqb b a (sym (eqb-true a b t))) | false ↦ λ t. sym (ne_eqb b a (λ s. eqb-false a b t (sym s))) ] in
        at refl

-- u is t with `new` under n
abbrev pub Turned : ℕ → Option Instance → FinMap nat_cmp Instance → FinMap nat_cmp Instance → Type 0
Turned n o t u = (q : ℕ) → get u q ≡ (if n == q then o else get t q)

pub turned_insert : (n : ℕ) (x : Instance) (t : FinMap nat_cmp Instance) → Turned n (Some x) t (insert t n x)
turned_insert n x t q = get-insert nat_cmp_total t n x q ∙ ap (λ b. cond b (Some x) (get t q)) (tied q n)

pub turned_remove : (n : ℕ) (t : FinMap nat_cmp Instance) → Turned n None t (remove t n)
turned_remove n t q = get-remove nat_cmp_total t n q ∙ ap (λ b. cond b None (get t q)) (tied q n)

pub turned_by_id : (n : ℕ) (o : Option Instance) (t u : FinMap nat_cmp Instance) → HasId n o → IsById t → Turned n o t u → IsById u
turned_by_id n o t u h b e k x is =
    let F : Bool → Type 0 = λ c. (n == k) ≡ c → (if c then o else get t k) ≡ Some x → x.id ≡ k in
    let at : F (n == k) = elim (n == k) as F [ true ↦ λ c i. own o h i ∙ eqb-true n k c | false ↦ λ c i. b k x i ] in
    at refl (sym (e k) ∙ is)
  where
    own : (o : Option Instance) → HasId n o → o ≡ Some x → x.id ≡ n
    own None h i = absurd (cc)
    own (Some y) h i = let same : y ≡ x = cc in ap (λ (z : Instance). z.id) (sym same) ∙ h

pub model_turned : (n : ℕ) (o : Option Instance) (t u : FinMap nat_cmp Instance) → HasId n o → IsById t → Turned n o t u → model_of u ≡ replaced n o (model_of t)
model_turned n o t u h b e =
    let c : IsById u = turned_by_id n o t u h b e in
    same_models (model_of u) (replaced n o (model_of t)) (model_is u c) (model_replaced n o (model_of t) h (model_is t b))
    (λ i. sym (get_is u i c) ∙ e i ∙ ap (λ w. if n == i then o else w) (get_is t i b) ∙ sym (at_replaced n o (model_of t) h i))

-- Trees of ascending instances.

beside_above : (k : ℕ) (xs : List Instance) → AllAbove k xs → AreAbove k (beside_ids xs)
beside_above k [] h = tt
beside_above k (x ∷ xs) h = (h.0, beside_above k xs h.1)

beside_rises : (xs : List Instance) → IsModel xs → Rises (beside_ids xs)
beside_rises [] h = tt
beside_rises (x ∷ xs) h = (beside_above x.id xs h.0, beside_rises xs h.1)

pub beside_ascends : (xs : List Instance) → IsModel xs → IsAscending (beside_ids xs)
beside_ascends xs h = rises_is (beside_ids xs) (beside_rises xs h)

pub below_more : (n : ℕ) (ps : List (ℕ × Instance)) (k : ℕ) (x : Instance) → AreBelow n ps → k < n → AreBelow n (ps ++ (k, x) ∷ [])
below_more n [] k x h l = (l, tt)
below_more n (p ∷ ps) k x h l = (h.0, below_more n ps k x h.1 l)

pub beside_more : (ps : List (ℕ × Instance)) (xs : List Instance) (k : ℕ) (x : Instance) → ps ≡ beside_ids xs → k ≡ x.id → ps ++ (k, x) ∷ [] ≡ beside_ids (xs ++ x ∷ [])
beside_more ps xs k x e same = ap (λ qs. qs ++ (k, x) ∷ []) e ∙ ap (λ (n : ℕ). beside_ids xs ++ (n, x) ∷ []) same ∙ sym (map-append (λ (y : Instance). (y.id, y)) xs (x ∷ []))

without_ids : (xs : List Instance) → map (λ (e : ℕ × Instance). e.1) (beside_ids xs) ≡ xs
without_ids [] = refl
without_ids (x ∷ xs) = ap (λ ys. x ∷ ys) (without_ids xs)

own_key : (xs : List Instance) (k : ℕ) (x : Instance) → find nat_cmp k (beside_ids xs) ≡ Some x → x.id ≡ k
own_key [] k x e = absurd (cc)
own_key (y ∷ ys) k x e =
    let F : Bool → Type 0 = λ b. (k == y.id) ≡ b → cond b (Some y) (find nat_cmp k (beside_ids ys)) ≡ Some x → x.id ≡ k in
    let at : F (k == y.id) = elim (k == y.id) as F [
      | true ↦ λ t i. let same : y ≡ x = cc in ap (λ (z : Instance). z.id) (sym same) ∙ sym (eqb-true k y.id t)
      | false ↦ λ t i. own_key ys k x i
    ] in
    at refl (ap (λ b. cond b (Some y) (find nat_cmp k (beside_ids ys))) (unsigned_ties k y.id) ∙ e)

pub model_beside : (t : FinMap nat_cmp Instance) (xs : List Instance) → entries t ≡ beside_ids xs → model_of t ≡ xs
unfolding model_of
model_beside t xs e = ap (map (λ (p : ℕ × Instance). p.1)) e ∙ without_ids xs

pub beside_by_id : (t : FinMap nat_cmp Instance) (xs : List Instance) → entries t ≡ beside_ids xs → IsById t
beside_by_id t xs e k x is = own_key xs k x (ap (find nat_cmp k) (sym e) ∙ sym (get-entries t k) ∙ is)

length_map : (es : List (ℕ × Instance)) → length es ≡ length (map (λ (e : ℕ × Instance). e.1) es)
length_map [] = refl
length_map (e ∷ es) = ap suc (length_map es)

pub len_is : (t : FinMap nat_cmp Instance) → len t ≡ length (model_of t)
unfolding model_of
len_is t = len-entries t ∙ length_map (entries t)
