-- What is put at an id.
use Rattle.std.proofs.Common.{◌≡◌, ◌<◌, ℕ, ◌==◌, Bool, true, false, cond, if◌then◌else◌, nat_lt, Option, Some, None, refl, arith, ap, sym, ◌∙◌}
use Rattle.std.specs.Option.{option_or}
use Rattle.std.specs.Ordering.{nat_cmp, is_eq}
use Rattle.std.specs.declared.cmp.Ordering.TheVariants.{Less, Equal, Greater}
use Rattle.std.specs.BTreeMap as tree
use Rattle.std.specs.BTreeMap.{BTreeMap}
use Rattle.std.proofs.lemmas.Bool.{ltb-true, ne_eqb}
use Rattle.ifc_base.specs.declared.value.Instance.{Instance}
use Rattle.ifc_base.specs.declared.key.Key.{Key}
use Rattle.schema_table.specs.Schema.{Schema}
use Rattle.audit_model.specs.declared.commit.Edit.{Edit}
use Rattle.audit_model.specs.declared.commit.EditFault.{EditFault}
use Rattle.audit_model.specs.declared.step.Limits.{Limits}
use Rattle.audit_model.specs.Edits.{edit_id}
use Rattle.audit_model.specs.Judging.{conflict_of, edit_fault}
use Rattle.commit_rules.specs.declared.outcome.Left.{Left}
use Rattle.commit_rules.specs.declared.overlay.Overlay.{Overlay}
use Rattle.commit_rules.specs.Overlays.{IsLaid, IsLeft, left_by, over, put_at}

-- ids are compared as equal where they are
ties : (a b : ℕ) → is_eq (nat_cmp a b) ≡ (a == b)
ties a b =
    let F : Bool → Type 0 = λ l. nat_lt a b ≡ l → is_eq (cond l Less (cond (a == b) Equal Greater)) ≡ (a == b) in
    let at : F (nat_lt a b) = elim (nat_lt a b) as F [
      | true ↦ λ e. let lt : a < b = ltb-true a b e in sym (ne_eqb a b (omega (arith, lt)))
      | false ↦ λ e. elim (a == b) as (λ (c : Bool). is_eq (cond c Equal Greater) ≡ c) [ true ↦ refl | false ↦ refl ]
    ] in
    at refl

chosen : (b : Bool) (w o : Option (Option Instance)) → cond b w o ≡ (if b then w else o)
chosen true w o = refl
chosen false w o = refl

pub updated : (m n : BTreeMap ℕ (Option Instance)) (id : ℕ) (w : Option Instance) → ((q : ℕ) → tree.get nat_cmp n q ≡ cond (tree.is_at (nat_cmp id) q) (Some w) (tree.get nat_cmp m q)) → (i : ℕ) → put_at n i ≡ (if id == i then Some w else put_at m i)
unfolding put_at
updated m n id w up i = up i ∙ ap (λ (b : Bool). cond b (Some w) (tree.get nat_cmp m i)) (ties id i) ∙ chosen (id == i) (Some w) (tree.get nat_cmp m i)

-- the id is that of the edit
pub put_by : (old new : Overlay) (e : Edit) (w : Option Instance) (id : ℕ) → id ≡ edit_id e → ((i : ℕ) → put_at new.put i ≡ (if id == i then Some w else put_at old.put i)) → (i : ℕ) → put_at new.put i ≡ (if edit_id e == i then Some w else put_at old.put i)
put_by old new e w id is put i = put i ∙ ap (λ (j : ℕ). if j == i then Some w else put_at old.put i) is

pub laid : (s : Schema) (limits : Limits) (last : Key → ℕ) (base : ℕ) (below : ℕ → Option Instance) (old new : Overlay) (e : Edit) (left : Left) (held : Option Instance) → conflict_of last base e ≡ None → held ≡ over old.put below (edit_id e) → IsLeft s limits held old.count e left → ((i : ℕ) → put_at new.put i ≡ (if edit_id e == i then Some left.now else put_at old.put i)) → new.count ≡ left.count → IsLaid s limits last base below old e new
laid s limits last base below old new e left held none at l put count = record {
  faultless = ap (λ (o : Option EditFault). option_or o (edit_fault s limits (over old.put below (edit_id e)) old.count e)) none ∙ ap (λ (h : Option Instance). edit_fault s limits h old.count e) (sym at) ∙ l.faultless;
  put_is = λ i. put i ∙ ap (λ (w : Option Instance). if edit_id e == i then Some w else put_at old.put i) (l.now ∙ ap (λ (h : Option Instance). left_by s h e) at);
  count_is = count ∙ l.count_is;
}
