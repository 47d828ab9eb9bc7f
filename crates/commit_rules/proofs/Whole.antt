-- A whole commit, by its edits and by the references that they let dangle.
use Rattle.std.proofs.Common.{◌≡◌, ℕ, ◌+◌, min, true, nat_lt, List, Option, Some, None, arith, ap, ◌∙◌}
use Rattle.std.specs.Option.{option_or}
use Rattle.ifc_base.specs.declared.memory.Refusal.{Refusal}
use Rattle.ifc_base.specs.declared.memory.Refusal.TheVariants.{Fault, Memory}
use Rattle.ifc_base.specs.Refusals.{IfFault}
use Rattle.ifc_base.specs.declared.value.Instance.{Instance}
use Rattle.ifc_base.specs.declared.key.Key.{Key}
use Rattle.schema_table.specs.Schema.{Schema}
use Rattle.audit_model.specs.declared.commit.Edit.{Edit}
use Rattle.audit_model.specs.declared.commit.CommitRefusal.{CommitRefusal}
use Rattle.audit_model.specs.declared.step.Limits.{Limits}
use Rattle.audit_model.specs.Edits.{apply}
use Rattle.audit_model.specs.Judging.{dangling, judge, judge_from}
use Rattle.audit_model.proofs.Inserting.{judge_whole}

-- the number of the next edit, as a refusal carries it
pub number_next : (n i r : ℕ) → n ≡ min i 4294967295 → r ≡ min (n + 1) 4294967295 → r ≡ min (i + 1) 4294967295
number_next n i r e f = omega (arith, e, f)

module _ (s : Schema) (limits : Limits) (r : ℕ) (last : Key → ℕ) (base : ℕ) (m : List Instance) (es : List Edit) (before : nat_lt r limits.revisions ≡ true) where
  pub edits_refuse : (e : Refusal CommitRefusal) → IfFault e (λ why. judge_from s limits last base 1 m es ≡ Some why) → IfFault e (λ why. judge s limits r last base m es ≡ Some why)
  edits_refuse (Fault why) j = judge_whole s limits r last base m es before ∙ ap (λ (o : Option CommitRefusal). option_or o (dangling m (apply s m es))) j
  edits_refuse Memory j = tt

  pub by_dangling : (o : Option CommitRefusal) → judge_from s limits last base 1 m es ≡ None → dangling m (apply s m es) ≡ o → judge s limits r last base m es ≡ o
  by_dangling o j d = judge_whole s limits r last base m es before ∙ ap (λ (p : Option CommitRefusal). option_or p (dangling m (apply s m es))) j ∙ d
