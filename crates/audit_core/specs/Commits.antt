-- What preparing a commit makes, and what finishing it asks.
use Rattle.std.specs.Prelude.{◌≡◌, true, false, ℕ, ◌+◌, ◌≤◌, List, Some, None, length, if◌then◌else◌}
use Rattle.std.specs.List.{list_any}
use Rattle.std.specs.FinMap.{FinMap}
use Rattle.std.specs.Ordering.{nat_cmp}
use Rattle.ifc_base.specs.declared.key.Key.{Key}
use Rattle.ifc_base.specs.KeyOrder.{key_eq}
use Rattle.schema_table.specs.Schema.{Schema}
use Rattle.ifc_base.specs.declared.value.Instance.{Instance}
use Rattle.audit_model.specs.declared.commit.Edit.{Edit}
use Rattle.audit_model.specs.declared.specification.Specification.{Specification}
use Rattle.audit_model.specs.declared.step.Limits.{Limits}
use Rattle.audit_model.specs.declared.step.Call.TheVariants.{Commit}
use Rattle.audit_model.specs.declared.step.Reply.TheVariants.{Refused}
use Rattle.audit_model.specs.Edits.{apply}
use Rattle.audit_model.specs.Keys.{changes}
use Rattle.audit_model.specs.Judging.{judge}
use Rattle.audit_model.specs.declared.verdict.Pair.{Pair}
use Rattle.audit_model.specs.History.{current, revision, last_change}
use Rattle.audit_model.specs.Machine.{is_full, pairs_now}
use Rattle.model_view.specs.Views.{SnapshotView, IsSnapshotOf, DraftView}
use Rattle.inverse_index.specs.Log.{last_in}
use Rattle.model_view.specs.declared.answers.NotPrepared.{NotPrepared}
use Rattle.model_view.specs.declared.answers.NotPrepared.TheVariants as unprepared
use Rattle.inverse_index.specs.Changed.{KeysAscend}
use Rattle.dirty_board.specs.Rooms.{RoomView}
use Rattle.audit_core.specs.declared.plan.Planned.{Planned}
use Rattle.audit_core.specs.declared.plan.Planned.TheVariants as planned
use Rattle.audit_core.specs.Cores.{CoreView}
use Rattle.audit_core.specs.Rows.{lost}
use Rattle.audit_core.specs.Steps.{Adds, Unchanged}

-- On the model m as revision r, the commit of these edits, drafted on the revision `base`, is accepted. It makes this next snapshot,
-- changes exactly these keys, in their order, and these pairs go and come by it.
pub record IsPlan (s : Schema) (specs : List Specification) (limits : Limits) (last : Key → ℕ) (base r : ℕ) (m : List Instance) (edits : List Edit) (next : SnapshotView) (keys : List Key) (gone come : List Pair) : Type 0 where
  pub judged : judge s limits r last base m edits ≡ None
  pub next_is : IsSnapshotOf s (apply s m edits) (r + 1) next
  pub keys_are : (k : Key) → list_any (λ j. key_eq j k) keys ≡ changes s m (apply s m edits) k
  pub keys_ascend : KeysAscend keys
  pub gone_are : gone ≡ lost specs m (apply s m edits) keys
  pub come_are : come ≡ lost specs (apply s m edits) m keys

-- the commit is planned, or refused for this reason
abbrev pub IsPlanned : Schema → List Specification → Limits → (Key → ℕ) → ℕ → ℕ → List Instance → List Edit → Planned → Type 0
IsPlanned s specs limits last base r m edits (planned.Next next keys gone come) = IsPlan s specs limits last base r m edits next keys gone.items come.items
IsPlanned s specs limits last base r m edits (planned.Refused why) = judge s limits r last base m edits ≡ Some why

-- what contracts see of a prepared commit
pub record PreparedView : Type 0 where
  pub actor : ℕ
  pub base : ℕ
  pub edits : List Edit
  pub next : SnapshotView
  pub keys : List Key
  pub log : FinMap nat_cmp ℕ
  pub space : RoomView

-- It is what `prepare` makes of the core's present state - its log has the next revision as the last change of the keys that the commit
-- changes - and the room for its entry and for the pairs that come is there. This is so until an entry is added: see `PreparedStays`.
pub record IsPreparedFor (core : CoreView) (p : PreparedView) : Type 0 where
  pub plan : IsPlan core.ground.schema core.ground.specs core.ground.limits (last_change core.ground core.history) p.base (revision core.history) (current core.ground core.history) p.edits p.next p.keys p.space.gone p.space.come
  pub base_past : p.base ≤ revision core.history
  pub not_full : is_full core.ground core.history 1 ≡ false
  pub room : 1 ≤ core.spare
  pub enough : length (pairs_now core.ground core.history) ≤ p.space.size
  pub log_is : (k : Key) → last_in p.log k ≡ (if list_any (λ j. key_eq j k) p.keys then revision core.history + 1 else last_change core.ground core.history k)

-- What was prepared before a call that adds no entry can be finished after it.
abbrev pub PreparedStays : Type 0
PreparedStays = (old new : CoreView) (p : PreparedView) → IsPreparedFor old p → Unchanged old new → IsPreparedFor new p

-- Why a draft wasn't prepared, and what stands then. The draft comes back.
abbrev pub IsNotPrepared : CoreView → CoreView → ℕ → DraftView → NotPrepared → Type 0
IsNotPrepared old new actor draft (unprepared.Refused why back) =
    Adds old new (record { actor = actor; call = Commit draft.base.revision draft.edits; reply = Refused why }) × (is_full old.ground old.history 1 ≡ false) × (back ≡ draft)
IsNotPrepared old new actor draft (unprepared.Full back) = Unchanged old new × (is_full old.ground old.history 1 ≡ true) × (back ≡ draft)
IsNotPrepared old new actor draft (unprepared.Memory back) = Unchanged old new × (back ≡ draft)
