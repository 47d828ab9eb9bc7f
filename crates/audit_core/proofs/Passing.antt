-- A call that adds no entry, and then another.
use Rattle.std.proofs.Common.{ℕ, ◌∙◌, Result, Ok, Err, IfErr, OnOk, le_trans}
use Rattle.audit_model.specs.declared.step.StepRec.{StepRec}
use Rattle.model_view.specs.Views.{DraftView}
use Rattle.model_view.specs.declared.answers.Halt.{Halt}
use Rattle.model_view.specs.declared.answers.Halt.TheVariants as halt
use Rattle.model_view.specs.declared.answers.NotPrepared.{NotPrepared}
use Rattle.model_view.specs.declared.answers.NotPrepared.TheVariants.{Refused, Full, Memory}
use Rattle.audit_core.specs.Cores.{CoreView}
use Rattle.audit_core.specs.Commits.{IsNotPrepared, PreparedStays}
use Rattle.audit_core.specs.Steps.{Adds, IsHalted, Unchanged}

adds_after : {a b c : CoreView} {e : StepRec} → Unchanged a b → Adds b c e → Adds a c e
adds_after {a = a} {b = b} {c = c} {e = e} u s = record {
  lawful = rw (← u.ground, ← u.history) s.lawful;
  history = rw (← u.history) s.history;
  ground = s.ground ∙ u.ground;
}

pub unchanged_after : {a b c : CoreView} → Unchanged a b → Unchanged b c → Unchanged a c
unchanged_after {a = a} {b = b} {c = c} u s = record {
  history = s.history ∙ u.history;
  ground = s.ground ∙ u.ground;
  spare = le_trans u.spare s.spare;
}

halted_after : {a b : CoreView} (c : CoreView) (n : ℕ) (why : Halt) → Unchanged a b → IsHalted b c n why → IsHalted a c n why
halted_after c n halt.Full u h = (unchanged_after u h.0, rw (← u.ground, ← u.history) h.1)
halted_after c n halt.Memory u h = unchanged_after u h

pub if_halted : {T : Type 0} {a b : CoreView} (c : CoreView) (n : ℕ) (r : Result T Halt) → Unchanged a b → IfErr r (λ why. IsHalted b c n why) → IfErr r (λ why. IsHalted a c n why)
if_halted c n (Ok x) u h = h
if_halted c n (Err e) u h = halted_after c n e u h

pub on_unchanged : {T E : Type 0} {a b : CoreView} (c : CoreView) (r : Result T E) → Unchanged a b → OnOk r (Unchanged b c) → OnOk r (Unchanged a c)
on_unchanged c (Ok x) u h = unchanged_after u h
on_unchanged c (Err e) u h = h

pub not_prepared : {a b : CoreView} (c : CoreView) (actor : ℕ) (draft : DraftView) (r : NotPrepared) → Unchanged a b → IsNotPrepared b c actor draft r → IsNotPrepared a c actor draft r
not_prepared c actor draft (Refused why back) u n = (adds_after u n.0, rw (← u.ground, ← u.history) n.1, n.2)
not_prepared c actor draft (Full back) u n = (unchanged_after u n.0, rw (← u.ground, ← u.history) n.1, n.2)
not_prepared c actor draft (Memory back) u n = (unchanged_after u n.0, n.1)

pub if_not_prepared : {T : Type 0} {a b : CoreView} (c : CoreView) (actor : ℕ) (draft : DraftView) (r : Result T NotPrepared) → Unchanged a b → IfErr r (λ e. IsNotPrepared b c actor draft e) → IfErr r (λ e. IsNotPrepared a c actor draft e)
if_not_prepared c actor draft (Ok x) u n = n
if_not_prepared c actor draft (Err e) u n = not_prepared c actor draft e u n

pub prepared_stays : PreparedStays
prepared_stays old new p r u = record {
  plan = rw (u.ground, u.history) r.plan;
  base_past = rw u.history r.base_past;
  not_full = rw (u.ground, u.history) r.not_full;
  room = le_trans r.room u.spare;
  enough = rw (u.ground, u.history) r.enough;
  log_is = rw (u.ground, u.history) r.log_is;
}
