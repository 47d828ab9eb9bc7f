-- Edits that are accepted at a model, one at a time.
use Rattle.std.proofs.Common.{◌≡◌, ℕ, ◌+◌, ◌<◌, ◌==◌, Bool, true, false, cond, if◌then◌else◌, List, [], ◌∷◌, length, drop, get_or, map, Option, Some, None, is_some, refl, ap, sym, subst, ◌∙◌}
use Rattle.std.specs.Borrow.{Bor}
use Rattle.std.specs.List.{list_any}
use Rattle.std.specs.Option.{option_copied}
use Rattle.std.proofs.lemmas.Bool.{eqb-true, or_parts}
use Rattle.std.proofs.lemmas.List.{drop_more}
use Rattle.ifc_base.specs.declared.value.Instance.{Instance}
use Rattle.ifc_base.specs.declared.value.Value.{Value}
use Rattle.schema_table.specs.Schema.{Schema}
use Rattle.audit_model.specs.declared.commit.Edit.{Edit}
use Rattle.audit_model.specs.declared.commit.Edit.TheVariants.{Add, Set}
use Rattle.audit_model.specs.declared.commit.EditFault.TheVariants.{NoInstance}
use Rattle.audit_model.specs.Models.{IsModel, instance_at, is_present, with_instance}
use Rattle.audit_model.specs.Edits.{apply, edit_id, edited, with_attribute, without_instance}
use Rattle.audit_model.specs.Judging.{id_fault_of}
use Rattle.audit_model.proofs.EditLaws.{at_edited, model_edited, not_taken, same_id, set_if, set_if_id, untouched}
use Rattle.inverse_index.specs.Index.{change_id, replaced}
use Rattle.inverse_index.proofs.Models.{at_replaced, model_replaced, same_models}
use Rattle.inverse_index.proofs.Replacing.{absent_none}
use Rattle.model_view.specs.Dangles.{KeepsOthers}
use Rattle.model_view.specs.Views.{AreAccepted}

-- the next edit is accepted, and then the rest
pub accepted_next : (s : Schema) (m : List Instance) (es : List Edit) (i : ℕ) (e : Edit) → i < length es → e ≡ get_or es i e → AreAccepted s m (drop i es) → AreAccepted s m (e ∷ drop (i + 1) es)
accepted_next s m es i e l at h =
    rw (drop_more es i e l, ← at) at h

-- what is found at an id has that id
pub at_id : (id : ℕ) (m : List Instance) (x : Instance) → instance_at id m ≡ Some x → x.id ≡ id
at_id id [] x e = absurd (cc)
at_id id (y ∷ ys) x e =
    let F : Bool → Type 0 = λ b. (y.id == id) ≡ b → cond b (Some y) (instance_at id ys) ≡ Some x → x.id ≡ id in
    let at : F (y.id == id) = elim (y.id == id) as F [
      | true ↦ λ f k. let same : y ≡ x = cc in ap (λ (z : Instance). z.id) (sym same) ∙ eqb-true y.id id f
      | false ↦ λ f k. at_id id ys x k
    ] in
    at refl e

-- Adding.

without_absent : (n : ℕ) (m : List Instance) → is_present n m ≡ false → without_instance n m ≡ m
without_absent n [] e = refl
without_absent n (x ∷ xs) e =
    let apart : ((x.id == n) ≡ false) × (is_present n xs ≡ false) = or_parts (x.id == n) (is_present n xs) e in
    rw apart.0 (ap (λ ys. x ∷ ys) (without_absent n xs apart.1))

pub added : (s : Schema) (x y : Instance) (m : List Instance) (e : Edit) → e ≡ Add x → y ≡ x → id_fault_of m e ≡ None → replaced y.id (Some y) m ≡ edited s m e
added s x y m e is same f =
    let g : id_fault_of m (Add x) ≡ None = subst (λ (d : Edit). id_fault_of m d ≡ None) is f in
    ap (λ (z : Instance). replaced z.id (Some z) m) same ∙ ap (with_instance x) (without_absent x.id m (not_taken x m g)) ∙ ap (edited s m) (sym is)

-- Removing.

pub none_cut : (id : ℕ) (m : List Instance) → instance_at id m ≡ None → m ≡ replaced id None m
none_cut id m e = sym (without_absent id m (absent_none id m e))

-- Setting.

-- a set edit changes nothing where no instance of its id is there
pub set_none : (s : Schema) (id : ℕ) (attr : List ℕ) (value : Value) (m : List Instance) → instance_at id m ≡ None → m ≡ edited s m (Set id attr value)
set_none s id attr value [] e = refl
set_none s id attr value (x ∷ xs) e =
    let F : Bool → Type 0 = λ b. cond b (Some x) (instance_at id xs) ≡ None → (x ∷ xs) ≡ (if b then with_attribute s attr value x else x) ∷ edited s xs (Set id attr value) in
    let at : F (x.id == id) = elim (x.id == id) as F [ true ↦ λ k. absurd (cc) | false ↦ λ k i. x ∷ set_none s id attr value xs k i ] in
    at e

set_here : (s : Schema) (id : ℕ) (attr : List ℕ) (value : Value) (m : List Instance) (x : Instance) → instance_at id m ≡ Some x → instance_at id (map (set_if s id attr value) m) ≡ Some (with_attribute s attr value x)
set_here s id attr value [] x e = absurd (cc)
set_here s id attr value (y ∷ ys) x e =
    let F : Bool → Type 0 = λ b. (y.id == id) ≡ b → cond b (Some y) (instance_at id ys) ≡ Some x → cond b (Some (set_if s id attr value y)) (instance_at id (map (set_if s id attr value) ys)) ≡ Some (with_attribute s attr value x) in
    let at : F (y.id == id) = elim (y.id == id) as F [
      | true ↦ λ f k.
          let same : y ≡ x = cc in
          ap (λ (b : Bool). Some (if b then with_attribute s attr value y else y)) f ∙ ap (λ (z : Instance). Some (with_attribute s attr value z)) same
      | false ↦ λ f k. set_here s id attr value ys x k
    ] in
    ap (λ (n : ℕ). cond (n == id) (Some (set_if s id attr value y)) (instance_at id (map (set_if s id attr value) ys))) (set_if_id s id attr value y) ∙ at refl e

set_at : (s : Schema) (id : ℕ) (attr : List ℕ) (value : Value) (m : List Instance) (x : Instance) (i : ℕ) → instance_at id m ≡ Some x → instance_at i (edited s m (Set id attr value)) ≡ (if id == i then Some (with_attribute s attr value x) else instance_at i m)
set_at s id attr value m x i e =
    let F : Bool → Type 0 = λ b. (id == i) ≡ b → instance_at i (edited s m (Set id attr value)) ≡ (if b then Some (with_attribute s attr value x) else instance_at i m) in
    let at : F (id == i) = elim (id == i) as F [
      | true ↦ λ f. subst (λ j. instance_at j (edited s m (Set id attr value)) ≡ Some (with_attribute s attr value x)) (eqb-true id i f) (set_here s id attr value m x e)
      | false ↦ λ f. at_edited s i m (Set id attr value) f
    ] in
    at refl

-- the instance takes the place of the one that was there
pub set_replaced : (s : Schema) (id : ℕ) (attr : List ℕ) (value : Value) (m : List Instance) (x y : Instance) → IsModel m → instance_at id m ≡ Some x → y ≡ with_attribute s attr value x → replaced y.id (Some y) m ≡ edited s m (Set id attr value)
set_replaced s id attr value m x y h e is =
    let same : y.id ≡ id = ap (λ (z : Instance). z.id) is ∙ same_id s attr value x ∙ at_id id m x e in
    let fault : id_fault_of m (Set id attr value) ≡ None = ap (λ (o : Option Instance). if is_some o then None else Some (NoInstance id)) e in
    same_models (replaced y.id (Some y) m) (edited s m (Set id attr value)) (model_replaced y.id (Some y) m refl h) (model_edited s m (Set id attr value) fault h)
    (λ i. at_replaced y.id (Some y) m refl i ∙ ap (λ (n : ℕ). if n == i then Some y else instance_at i m) same ∙ ap (λ (z : Instance). if id == i then Some z else instance_at i m) is ∙ sym (set_at s id attr value m x i e))

-- Cutting.

-- the one that goes from an id is the one that was there
pub own_change : (id : ℕ) (m : List Instance) (o : Option Instance) (x : Instance) → o ≡ Some x → o ≡ instance_at id m → change_id o None ≡ id
own_change id m o x is e = ap (λ (w : Option Instance). change_id w None) is ∙ at_id id m x (sym e ∙ is)

pub some_copied : (o : Option (Bor Instance)) → is_some o ≡ is_some (option_copied o)
some_copied None = refl
some_copied (Some x) = refl

-- Edits done in turn leave what they don't name.
pub keeps_others : (s : Schema) (m n : List Instance) (es fs gs : List Edit) → n ≡ apply s m es → es ≡ gs → fs ≡ gs → KeepsOthers fs m n
keeps_others s m n es fs gs e same other i h =
    ap (instance_at i) (e ∙ ap (apply s m) same) ∙ untouched s i m gs (ap (λ ds. list_any (λ d. edit_id d == i) ds) (sym other) ∙ h)

pub keeps_of : (m n : List Instance) (es : List Edit) → (s : Schema) × (n ≡ apply s m es) → KeepsOthers es m n
keeps_of m n es p = keeps_others p.0 m n es es es p.1 refl refl
