-- Histories that go on from others. They stand here with the newest entry first.
use Rattle.std.specs.Prelude.{◌≡◌, List, [], ◌∷◌, ◌++◌}
use Rattle.audit_model.specs.declared.step.Call.TheVariants as call
use Rattle.audit_model.specs.declared.step.Reply.TheVariants as reply
use Rattle.audit_model.specs.declared.step.StepRec.{StepRec}
use Rattle.audit_model.specs.declared.step.Given.{Given}
use Rattle.audit_model.specs.History.{out}
use Rattle.script_rules.specs.ScriptLines.{entry}

-- the second history goes on from the first
abbrev pub IsLater : List StepRec → List StepRec → Type 0
IsLater h k = (es : List StepRec) × (k ≡ es ++ h)

-- each of these claims is given back by its own actor, the oldest claim first
abbrev pub returns : List Given → List StepRec
returns [] = []
returns (c ∷ cs) = returns cs ++ entry c.actor (call.GiveBack c.number) reply.Back ∷ []

-- the history, and behind it the return of each claim that is out
abbrev pub returned : List StepRec → List StepRec
returned h = returns (out h) ++ h
