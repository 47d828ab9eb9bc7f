-- Accepted edits can be done.
use Rattle.std.proofs.Common.{◌≡◌, ℕ, ◌+◌, List, [], ◌∷◌, length, Option, Some, None, refl}
use Rattle.ifc_base.specs.declared.value.Instance.{Instance}
use Rattle.ifc_base.specs.declared.key.Key.{Key}
use Rattle.schema_table.specs.Schema.{Schema}
use Rattle.audit_model.specs.declared.commit.Edit.{Edit}
use Rattle.audit_model.specs.declared.commit.EditFault.{EditFault}
use Rattle.audit_model.specs.declared.step.Limits.{Limits}
use Rattle.audit_model.specs.Models.{instance_at}
use Rattle.audit_model.specs.Edits.{edit_id, edited}
use Rattle.audit_model.specs.Judging.{judge_from, fault_of, conflict_of, id_fault_given, attribute_fault_given, schema_fault_given, room_fault_given, refused_or}
use Rattle.audit_model.proofs.EditLaws.{or_none}
use Rattle.model_view.specs.Views.{AreAccepted}

pub doable : (s : Schema) (limits : Limits) (last : Key → ℕ) (base n : ℕ) (m : List Instance) (es : List Edit) → judge_from s limits last base n m es ≡ None → AreAccepted s m es
doable s limits last base n m [] j = tt
doable s limits last base n m (e ∷ es) j =
    let F : Option EditFault → Type 0 = λ o. fault_of s limits last base m e ≡ o → refused_or o n (judge_from s limits last base (n + 1) (edited s m e) es) ≡ None → AreAccepted s m (e ∷ es) in
    let at : F (fault_of s limits last base m e) = elim (fault_of s limits last base m e) as F [
      | None ↦ λ f k.
          let held : Option Instance = instance_at (edit_id e) m in
          let rest = or_none (id_fault_given held e) _ (or_none (conflict_of last base e) _ f).1 in
          let attribute = or_none (attribute_fault_given s held e) _ rest.1 in
          let fits = or_none (schema_fault_given s held e) (room_fault_given limits (length m) e) attribute.1 in
          (rest.0, attribute.0, fits.0, doable s limits last base (n + 1) (edited s m e) es k)
      | Some x ↦ λ f k. absurd (cc)
    ] in
    at refl j
