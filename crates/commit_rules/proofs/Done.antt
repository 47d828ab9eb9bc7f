-- What stands at each id after an edit that can be done, and how many instances there are then.
use Rattle.std.proofs.Common.{◌≡◌, ℕ, ◌+◌, ◌-◌, ◌==◌, Bool, true, false, not, cond, if◌then◌else◌, nat_lt, List, [], ◌∷◌, length, Option, Some, None, is_some, refl, arith, ap, sym, subst, ◌∙◌}
use Rattle.std.specs.Option.{option_map}
use Rattle.std.proofs.lemmas.Bool.{eqb-true}
use Rattle.std.proofs.lemmas.List.{length-map}
use Rattle.ifc_base.specs.declared.value.Instance.{Instance}
use Rattle.ifc_base.specs.declared.value.Value.{Value}
use Rattle.schema_table.specs.Schema.{Schema}
use Rattle.audit_model.specs.declared.commit.Edit.{Edit}
use Rattle.audit_model.specs.declared.commit.Edit.TheVariants.{Add, Set, Remove}
use Rattle.audit_model.specs.declared.commit.EditFault.TheVariants.{NoInstance}
use Rattle.audit_model.specs.Models.{IsModel, AllAbove, instance_at, with_instance}
use Rattle.audit_model.specs.Edits.{edit_id, edited, with_attribute, without_instance}
use Rattle.audit_model.specs.Judging.{id_fault_of}
use Rattle.audit_model.proofs.EditLaws.{at_edited, not_taken, same_id, set_if}
use Rattle.inverse_index.proofs.Models.{at_replaced, at_with_here, none_at}
use Rattle.model_view.proofs.Doing.{at_id, none_cut, set_replaced}
use Rattle.commit_rules.specs.Overlays.{counted, left_by}

-- What stands at each id.

set_at : (s : Schema) (id : ℕ) (attr : List ℕ) (value : Value) (m : List Instance) (x : Instance) (i : ℕ) → IsModel m → instance_at id m ≡ Some x → instance_at i (edited s m (Set id attr value)) ≡ (if id == i then Some (with_attribute s attr value x) else instance_at i m)
set_at s id attr value m x i h e =
    let y : Instance = with_attribute s attr value x in
    let same : y.id ≡ id = same_id s attr value x ∙ at_id id m x e in
    ap (instance_at i) (sym (set_replaced s id attr value m x y h e refl)) ∙ at_replaced y.id (Some y) m refl i ∙ ap (λ (n : ℕ). if n == i then Some y else instance_at i m) same

not_there : (m : List Instance) (id : ℕ) → (if is_some (instance_at id m) then None else Some (NoInstance id)) ≡ None → instance_at id m ≡ None → ⊥
not_there m id f e = let t : Some (NoInstance id) ≡ None = sym (ap (λ (o : Option Instance). if is_some o then None else Some (NoInstance id)) e) ∙ f in absurd (cc)

pub at_done : (s : Schema) (m : List Instance) (e : Edit) (i : ℕ) → IsModel m → id_fault_of m e ≡ None → instance_at i (edited s m e) ≡ (if edit_id e == i then left_by s (instance_at (edit_id e) m) e else instance_at i m)
at_done s m (Add x) i h f =
    let F : Bool → Type 0 = λ b. (x.id == i) ≡ b → instance_at i (with_instance x m) ≡ (if b then Some x else instance_at i m) in
    let at : F (x.id == i) = elim (x.id == i) as F [
      | true ↦ λ t. subst (λ (j : ℕ). instance_at j (with_instance x m) ≡ Some x) (eqb-true x.id i t) (at_with_here x m (not_taken x m f))
      | false ↦ λ t. at_edited s i m (Add x) t
    ] in
    at refl
at_done s m (Set id attr value) i h f =
    let F : Option Instance → Type 0 = λ o. instance_at id m ≡ o → instance_at i (edited s m (Set id attr value)) ≡ (if id == i then option_map (with_attribute s attr value) o else instance_at i m) in
    let at : F (instance_at id m) = elim (instance_at id m) as F [
      | None ↦ λ e. absurd (not_there m id f e)
      | Some x ↦ λ e. set_at s id attr value m x i h e
    ] in
    at refl
at_done s m (Remove id) i h f = at_replaced id None m tt i

-- How many there are.

length_with : (x : Instance) (m : List Instance) → length (with_instance x m) ≡ length m + 1
length_with x [] = refl
length_with x (y ∷ ys) =
    let more : length (with_instance x ys) ≡ length ys + 1 = length_with x ys in
    elim (nat_lt x.id y.id) as (λ b. length (if b then (x ∷ y ∷ ys) else (y ∷ with_instance x ys)) ≡ length (y ∷ ys) + 1) [
      | true ↦ omega arith
      | false ↦ omega (arith, more)
    ]

length_without : (id : ℕ) (m : List Instance) (x : Instance) → IsModel m → instance_at id m ≡ Some x → length (without_instance id m) + 1 ≡ length m
length_without id [] x h e = absurd (cc)
length_without id (y ∷ ys) x h e =
    let F : Bool → Type 0 = λ b. (y.id == id) ≡ b → cond b (Some y) (instance_at id ys) ≡ Some x → length (cond (not b) (y ∷ without_instance id ys) (without_instance id ys)) + 1 ≡ length (y ∷ ys) in
    let at : F (y.id == id) = elim (y.id == id) as F [
      | true ↦ λ t k.
          let gone : ys ≡ without_instance id ys = none_cut id ys (none_at id ys (subst (λ (j : ℕ). AllAbove j ys) (eqb-true y.id id t) h.0)) in
          let same : length ys ≡ length (without_instance id ys) = ap (λ (zs : List Instance). length zs) gone in
          omega (arith, same)
      | false ↦ λ t k.
          let less : length (without_instance id ys) + 1 ≡ length ys = length_without id ys x h.1 k in
          omega (arith, less)
    ] in
    at refl e

pub length_done : (s : Schema) (m : List Instance) (e : Edit) → IsModel m → id_fault_of m e ≡ None → length (edited s m e) ≡ counted (length m) e
length_done s m (Add x) h f = length_with x m
length_done s m (Set id attr value) h f = length-map m (set_if s id attr value)
length_done s m (Remove id) h f =
    let F : Option Instance → Type 0 = λ o. instance_at id m ≡ o → length (without_instance id m) ≡ length m - 1 in
    let at : F (instance_at id m) = elim (instance_at id m) as F [
      | None ↦ λ e. absurd (not_there m id f e)
      | Some x ↦ λ e. let less : length (without_instance id m) + 1 ≡ length m = length_without id m x h e in omega (arith, less)
    ] in
    at refl
