-- What contracts see of a snapshot, a draft, a claim and a finding.
use Rattle.std.specs.Prelude.{◌≡◌, ℕ, List, [], ◌∷◌, None}
use Rattle.ifc_base.specs.declared.value.Instance.{Instance}
use Rattle.std.specs.Ordering.{nat_cmp}
use Rattle.std.specs.FinMap.{FinMap}
use Rattle.ifc_base.specs.declared.key.Key.{Key}
use Rattle.ifc_base.specs.declared.key.Key.TheVariants.{Refs}
use Rattle.audit_model.specs.declared.commit.Edit.{Edit}
use Rattle.audit_model.specs.declared.verdict.Pair.{Pair}
use Rattle.audit_model.specs.declared.verdict.Verdict.{Verdict}
use Rattle.audit_model.specs.Edits.{edited}
use Rattle.schema_table.specs.Schema.{Schema}
use Rattle.audit_model.specs.Models.{instance_at}
use Rattle.audit_model.specs.Keys.{Sight, sight}
use Rattle.inverse_index.specs.Index.{ids_at, Indexes}
use Rattle.audit_model.specs.Edits.{edit_id}
use Rattle.audit_model.specs.Judging.{id_fault_of, attribute_fault_given, schema_fault_given}

-- A model, and the lists of ids under the numbers of keys: under the key of an id itself those that hold a reference to the id, and
-- under a key of referrers those. The lists of holders are always those of the model. Those of referrers are so under a schema, which
-- isn't seen here: that they are is said where they are made.
pub record ModelView : Type 0 where
  pub model : List Instance
  pub lists : FinMap nat_cmp (List ℕ)

-- the model of a revision, and its lists
pub record SnapshotView : Type 0 where
  pub model : List Instance
  pub lists : FinMap nat_cmp (List ℕ)
  pub revision : ℕ

-- it is a snapshot of the model m as revision r under the schema s
pub record IsSnapshotOf (s : Schema) (m : List Instance) (r : ℕ) (v : SnapshotView) : Type 0 where
  pub model : v.model ≡ m
  pub revision : v.revision ≡ r
  pub index : Indexes s v.model v.lists

-- What can be looked at in it.
abbrev pub seen_in : SnapshotView → Sight
seen_in v = record { instance = λ id. instance_at id v.model; referrers = λ id role. ids_at v.lists (Refs id role) }

-- a snapshot whose lists are the index of its model shows that model
abbrev pub ShowsItsModel : Type 0
ShowsItsModel = (s : Schema) (v : SnapshotView) → Indexes s v.model v.lists → seen_in v ≡ sight s v.model

-- edits that were drafted on a snapshot
pub record DraftView : Type 0 where
  pub base : SnapshotView
  pub edits : List Edit

-- a pair that is to be evaluated at a snapshot
pub record ClaimView : Type 0 where
  pub number : ℕ
  pub pair : Pair
  pub snapshot : SnapshotView

-- what an evaluation found of a claim
pub record FindingView : Type 0 where
  pub claim : ClaimView
  pub verdict : Verdict
  pub needs : List Key

-- The edits can be done at the model: edit by edit, on the model with the edits before it done, the id to add is new, an instance of the
-- id to set or remove is there, its entity has the attribute to set, and what is added or changed fits the schema.
abbrev pub AreAccepted : Schema → List Instance → List Edit → Type 0
AreAccepted s m [] = Unit {0}
AreAccepted s m (e ∷ es) =
    (id_fault_of m e ≡ None) × (attribute_fault_given s (instance_at (edit_id e) m) e ≡ None) × (schema_fault_given s (instance_at (edit_id e) m) e ≡ None) × AreAccepted s (edited s m e) es
