-- What a claim, a delivery and a round leave.
use Rattle.std.specs.Prelude.{◌≡◌, ℕ, true, false, Bool, List, [], ◌∷◌, Option, Some, None, ◌⊎◌, Result, Ok, Err}
use Rattle.audit_model.specs.declared.verdict.Pair.{Pair}
use Rattle.audit_model.specs.declared.step.Call.TheVariants as call
use Rattle.audit_model.specs.declared.step.Reply.TheVariants as reply
use Rattle.audit_model.specs.declared.step.StepRec.{StepRec}
use Rattle.audit_model.specs.History.{out}
use Rattle.audit_model.specs.Machine.{Legal, claim_reply, is_full}
use Rattle.script_rules.specs.ScriptLines.{entry}
use Rattle.script_rules.specs.Serial.{after_delivery}
use Rattle.model_view.specs.Views.{FindingView}
use Rattle.model_view.specs.declared.answers.Halt.{Halt}
use Rattle.model_view.specs.declared.answers.Halt.TheVariants as halt
use Rattle.audit_core.specs.Cores.{CoreView}
use Rattle.audit_core.specs.Steps.{Adds, Unchanged}
use Rattle.serial_run.specs.declared.editor.Held.TheVariants as held
use Rattle.serial_run.specs.Growth.{returned}
use Rattle.serial_run.specs.Editing.{HoldsIn}
use Rattle.serial_run.specs.Course.{IsReturned}

-- the history is legal, and no claim is out
pub record IsFree (core : CoreView) : Type 0 where
  pub legal : Legal core.ground core.history
  pub none_out : out core.history ≡ []

abbrev pub has_room : CoreView → Type 0
has_room core = is_full core.ground core.history 2 ≡ false

-- the entry of a claim
abbrev pub claim_entry : CoreView → ℕ → StepRec
claim_entry core who = entry who call.Claim (claim_reply core.ground core.history)

-- Before the claim or behind it memory was wanting, and the claim, if it was given, was given back.
pub record IsCutTurn (old new : CoreView) (who : ℕ) : Type 0 where
  pub ground : new.ground ≡ old.ground
  pub legal : Legal new.ground new.history
  pub front : List StepRec
  pub begins : (front ≡ old.history) ⊎ (has_room old × (front ≡ claim_entry old who ∷ old.history))
  pub back : new.history ≡ returned front

abbrev pub StopsTurn : CoreView → CoreView → ℕ → Halt → Type 0
StopsTurn old new who halt.Full = Unchanged old new × (is_full old.ground old.history 2 ≡ true)
StopsTurn old new who halt.Memory = IsCutTurn old new who

-- The claim's entry was added. What was found of the pair is held then; none where the claim was answered Idle.
abbrev pub Takes : CoreView → CoreView → ℕ → Result (Option FindingView) Halt → Type 0
Takes old new who (Ok None) = has_room old × Adds old new (entry who call.Claim reply.Idle) × HoldsIn new who held.Idle
Takes old new who (Ok (Some f)) =
    has_room old × Adds old new (entry who call.Claim (reply.Claimed f.claim.number f.claim.pair f.claim.snapshot.revision)) × HoldsIn new who (held.Found f)
Takes old new who (Err why) = StopsTurn old new who why

-- the claim of this number was delivered
pub record IsHandedIn (old new : CoreView) (who number : ℕ) : Type 0 where
  pub ground : new.ground ≡ old.ground
  pub history : new.history ≡ after_delivery old.ground who number old.history
  pub free : IsFree new

abbrev pub HandsIn : {A : Type 0} → CoreView → CoreView → ℕ → FindingView → Result A Halt → Type 0
HandsIn old new who f (Ok done) = IsHandedIn old new who f.claim.number
HandsIn old new who f (Err halt.Memory) = IsReturned old new
HandsIn old new who f (Err halt.Full) = ⊥

-- a pair was claimed and its claim delivered
pub record IsRound (old new : CoreView) (who : ℕ) : Type 0 where
  pub room : has_room old
  pub number : ℕ
  pub pair : Pair
  pub revision : ℕ
  pub told : reply.Claimed number pair revision ≡ claim_reply old.ground old.history
  pub ground : new.ground ≡ old.ground
  pub history : new.history ≡ after_delivery old.ground who number (entry who call.Claim (reply.Claimed number pair revision) ∷ old.history)
  pub free : IsFree new

-- every unsettled pair is out
pub record IsLastRound (old new : CoreView) (who : ℕ) : Type 0 where
  pub room : has_room old
  pub told : reply.Idle ≡ claim_reply old.ground old.history
  pub ground : new.ground ≡ old.ground
  pub history : new.history ≡ entry who call.Claim reply.Idle ∷ old.history
  pub free : IsFree new

-- The round was done, and answers whether there was a pair; or it was stopped.
abbrev pub LeavesRound : CoreView → CoreView → ℕ → Result Bool Halt → Type 0
LeavesRound old new who (Ok true) = IsRound old new who
LeavesRound old new who (Ok false) = IsLastRound old new who
LeavesRound old new who (Err why) = StopsTurn old new who why
