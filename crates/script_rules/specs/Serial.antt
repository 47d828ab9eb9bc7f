-- The history that the phases of a script make in the order of the script: each line by its editor, and at the end of each phase a
-- drain by actor 0. The replies are those of the machine. Where a call would be answered Full the history ends before that call.
-- Histories stand here with the newest entry first.
use Rattle.std.specs.Prelude.{ℕ, zero, suc, Bool, true, false, ◌==◌, List, [], ◌∷◌, length, reverse, Option, Some, None, if◌then◌else◌}
use Rattle.audit_model.specs.declared.commit.Edit.{Edit}
use Rattle.audit_model.specs.declared.step.Given.{Given}
use Rattle.audit_model.specs.declared.step.Call.TheVariants as calls
use Rattle.audit_model.specs.declared.step.Reply.{Reply}
use Rattle.audit_model.specs.declared.step.Reply.TheVariants as replies
use Rattle.audit_model.specs.declared.step.StepRec.{StepRec}
use Rattle.audit_model.specs.declared.script.Act.{Act}
use Rattle.audit_model.specs.declared.script.Act.TheVariants.{Begin, Change, Commit, Publish, Take, Give, Work}
use Rattle.audit_model.specs.declared.script.ScriptLine.{ScriptLine}
use Rattle.audit_model.specs.declared.script.Phase.{Phase}
use Rattle.audit_model.specs.History.{Ground, revision, out, claim_numbered}
use Rattle.audit_model.specs.Machine.{pairs_now, claim_reply, deliver_reply, publish_reply, commit_reply, is_full}
use Rattle.script_rules.specs.ScriptLines.{Place, place, free, drafted, number_in, entry}

-- What a line leads to: the history after it, what its editor then has, and whether the history ended before a call that would be
-- answered Full.
pub record Done : Type 0 where
  pub history : List StepRec
  pub place : Place
  pub full : Bool

abbrev pub done : List StepRec → Place → Done
done h p = record { history = h; place = p; full = false }

abbrev pub ended : List StepRec → Place → Done
ended h p = record { history = h; place = p; full = true }

-- after the history h there is room for a call that needs room for n entries, and d is then what it leads to
abbrev pub with_room : Ground → ℕ → List StepRec → Place → Done → Done
with_room g n h p d = if is_full g h n then ended h p else d

-- the claim of this number that is out, where it was given to this actor
abbrev pub given_to : ℕ → Option Given → Option Given
given_to who (Some c) = if c.actor == who then Some c else None
given_to who None = None

abbrev pub with_delivery : Ground → ℕ → ℕ → Option Given → List StepRec → List StepRec
with_delivery g who n (Some c) h = entry who (calls.Deliver n) (deliver_reply g h c) ∷ h
with_delivery g who n None h = h

-- The claim of this number is delivered. A line never delivers a claim that isn't out or was given to another.
abbrev pub after_delivery : Ground → ℕ → ℕ → List StepRec → List StepRec
after_delivery g who n h = with_delivery g who n (given_to who (claim_numbered n (out h))) h

-- A claim was answered so: after Idle the rounds are over, else the claim is delivered and the rounds go on.
abbrev pub after_claim : Ground → ℕ → Reply → List StepRec → Place → (List StepRec → Done) → Done
after_claim g who (replies.Claimed n pair r) h p more = more (after_delivery g who n (entry who calls.Claim (replies.Claimed n pair r) ∷ h))
after_claim g who reply h p more = done (entry who calls.Claim reply ∷ h) p

-- n rounds of Claim and Deliver, or fewer where a Claim is answered Idle, which is then the last entry
abbrev pub rounds : Ground → ℕ → ℕ → Place → List StepRec → Done
rounds g who zero p h = done h p
rounds g who (suc n) p h = with_room g 2 h p (after_claim g who (claim_reply g h) h p (rounds g who n p))

abbrev pub commit_done : Ground → ℕ → Option (ℕ × List Edit) → Place → List StepRec → Done
commit_done g who (Some d) p h = with_room g 1 h p (done (entry who (calls.Commit d.0 d.1) (commit_reply g h d.0 d.1) ∷ h) (place None p.held))
commit_done g who None p h = done h p

abbrev pub give_done : Ground → ℕ → Option (Option ℕ) → Place → List StepRec → Done
give_done g who (Some (Some n)) p h = done (after_delivery g who n h) (place p.draft None)
give_done g who (Some None) p h = done h (place p.draft None)
give_done g who None p h = done h (place p.draft None)

-- the line of this editor, who is at the place p, is done after the history h
abbrev pub act_done : Ground → ℕ → Act → Place → List StepRec → Done
act_done g who Begin p h = with_room g 1 h p (done (entry who calls.Begin (replies.Began (revision h)) ∷ h) (place (Some (revision h, [])) p.held))
act_done g who (Change e) p h = done h (place (drafted e p.draft) p.held)
act_done g who Commit p h = commit_done g who p.draft p h
act_done g who Publish p h = with_room g 1 h p (done (entry who calls.Publish (publish_reply g h) ∷ h) p)
act_done g who Take p h = with_room g 2 h p (done (entry who calls.Claim (claim_reply g h) ∷ h) (place p.draft (Some (number_in (claim_reply g h)))))
act_done g who Give p h = give_done g who p.held p h
act_done g who (Work n) p h = rounds g who n p h

-- what the line does is done after it, unless the history has ended
abbrev pub and_then : Done → (List StepRec → Done) → Done
and_then d more = if d.full then d else more d.history

-- One Publish by actor 0.
abbrev pub publish_done : Ground → List StepRec → Done
publish_done g h = with_room g 1 h free (done (entry 0 calls.Publish (publish_reply g h) ∷ h) free)

-- A drain: rounds of Claim and Deliver by actor 0 until a Claim is answered Idle, and then one Publish. Nobody else calls, so each
-- round settles a pair, and no more rounds than pairs come before the Idle.
abbrev pub drain_done : Ground → List StepRec → Done
drain_done g h = and_then (rounds g 0 (suc (length (pairs_now g h))) free h) (publish_done g)

-- A run of a script so far: its history, what each editor has, and whether it ended before a call that would be answered Full.
pub record Run : Type 0 where
  pub history : List StepRec
  pub places : ℕ → Place
  pub full : Bool

-- nothing was done yet
abbrev pub fresh : Run
fresh = record { history = []; places = λ who. free; full = false }

abbrev pub placed : ℕ → Place → (ℕ → Place) → ℕ → Place
placed who p places k = if k == who then p else places k

-- the run goes on to what the call of this actor led to
abbrev pub moved : ℕ → Run → Done → Run
moved who s d = record { history = d.history; places = placed who d.place s.places; full = d.full }

-- one line, unless the run has ended
abbrev pub line_run : Ground → ScriptLine → Run → Run
line_run g l s = if s.full then s else moved l.editor s (act_done g l.editor l.act (s.places l.editor) s.history)

-- the lines in their order
abbrev pub lines_run : Ground → List ScriptLine → Run → Run
lines_run g [] s = s
lines_run g (l ∷ ls) s = lines_run g ls (line_run g l s)

-- the end of a phase, unless the run has ended
abbrev pub sync_run : Ground → Run → Run
sync_run g s = if s.full then s else moved 0 s (drain_done g s.history)

-- the phases in their order
abbrev pub phases_run : Ground → List Phase → Run → Run
phases_run g [] s = s
phases_run g (p ∷ ps) s = phases_run g ps (sync_run g (lines_run g p.lines s))

-- the history that the phases make, in the order of the journal
abbrev pub serial : Ground → List Phase → List StepRec
serial g phases = reverse (phases_run g phases fresh).history

-- the history ended before a call that would be answered Full
abbrev pub meets_full : Ground → List Phase → Bool
meets_full g phases = (phases_run g phases fresh).full
