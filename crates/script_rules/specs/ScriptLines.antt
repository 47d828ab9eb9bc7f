-- The entries that the lines of an editor make, whatever other actors do between them. Entries stand here in the order of the
-- journal, and are those of this editor alone.
use Rattle.std.specs.Prelude.{◌≡◌, ℕ, zero, suc, ◌<◌, ◌==◌, List, [], ◌∷◌, ◌++◌, Option, Some, None, ◌⊎◌, if◌then◌else◌}
use Rattle.audit_model.specs.declared.commit.Edit.{Edit}
use Rattle.audit_model.specs.declared.verdict.Pair.{Pair}
use Rattle.audit_model.specs.declared.step.Call.{Call}
use Rattle.audit_model.specs.declared.step.Call.TheVariants as calls
use Rattle.audit_model.specs.declared.step.Reply.{Reply}
use Rattle.audit_model.specs.declared.step.Reply.TheVariants as replies
use Rattle.audit_model.specs.declared.step.StepRec.{StepRec}
use Rattle.audit_model.specs.declared.script.Act.{Act}
use Rattle.audit_model.specs.declared.script.Act.TheVariants.{Begin, Change, Commit, Publish, Take, Give, Work}
use Rattle.audit_model.specs.declared.script.ScriptLine.{ScriptLine}

abbrev pub entry : ℕ → Call → Reply → StepRec
entry who call reply = record { actor = who; call = call; reply = reply }

-- What an editor has between two lines: the base and the edits of an open draft; and after a take the number of the claim that is
-- held, or none of a take that was answered Idle.
pub record Place : Type 0 where
  pub draft : Option (ℕ × List Edit)
  pub held : Option (Option ℕ)

abbrev pub place : Option (ℕ × List Edit) → Option (Option ℕ) → Place
place draft held = record { draft = draft; held = held }

-- no draft, and nothing held
abbrev pub free : Place
free = place None None

-- the draft with one more edit
abbrev pub drafted : Edit → Option (ℕ × List Edit) → Option (ℕ × List Edit)
drafted e (Some d) = Some (d.0, d.1 ++ e ∷ [])
drafted e None = None

-- the number that a claim was answered; none where it was answered Idle
abbrev pub number_in : Reply → Option ℕ
number_in (replies.Claimed number pair at) = Some number
number_in reply = None

-- the commit of the draft: of the base that its Begin named, and its edits in their order
abbrev pub commit_of : ℕ → Option (ℕ × List Edit) → Reply → List StepRec
commit_of who (Some d) reply = entry who (calls.Commit d.0 d.1) reply ∷ []
commit_of who None reply = []

-- the delivery of what is held; none after an Idle
abbrev pub deliver_of : ℕ → Option (Option ℕ) → Reply → List StepRec
deliver_of who (Some (Some n)) reply = entry who (calls.Deliver n) reply ∷ []
deliver_of who (Some None) reply = []
deliver_of who None reply = []

-- so many whole rounds of Claim and Deliver
abbrev pub Turns : ℕ → ℕ → List StepRec → Type 0
Turns who zero es = es ≡ []
Turns who (suc n) es =
    (some : List StepRec) × (number : ℕ) × (pair : Pair) × (at : ℕ) × (reply : Reply) × Turns who n some
    × (es ≡ some ++ (entry who calls.Claim (replies.Claimed number pair at) ∷ entry who (calls.Deliver number) reply ∷ []))

-- n whole rounds, or fewer and then a Claim answered Idle
abbrev pub Rounds : ℕ → ℕ → List StepRec → Type 0
Rounds who n es =
    Turns who n es
    ⊎ ((k : ℕ) × (some : List StepRec) × (k < n) × Turns who k some × (es ≡ some ++ entry who calls.Claim replies.Idle ∷ []))

-- The line makes these entries, and leads from the place p to the place q: `open` one Begin, an edit none, `commit` one Commit,
-- `publish` one Publish, `take` one Claim, `give` one Deliver or none after an Idle, `work` its rounds.
abbrev pub Does : ℕ → Act → Place → List StepRec → Place → Type 0
Does who Begin p es q = (r : ℕ) × (es ≡ entry who calls.Begin (replies.Began r) ∷ []) × (q ≡ place (Some (r, [])) p.held)
Does who (Change e) p es q = (es ≡ []) × (q ≡ place (drafted e p.draft) p.held)
Does who Commit p es q = (reply : Reply) × (es ≡ commit_of who p.draft reply) × (q ≡ place None p.held)
Does who Publish p es q = (reply : Reply) × (es ≡ entry who calls.Publish reply ∷ []) × (q ≡ p)
Does who Take p es q = (reply : Reply) × (es ≡ entry who calls.Claim reply ∷ []) × (q ≡ place p.draft (Some (number_in reply)))
Does who Give p es q = (reply : Reply) × (es ≡ deliver_of who p.held reply) × (q ≡ place p.draft None)
Does who (Work n) p es q = Rounds who n es × (q ≡ p)

-- the entries of lines in their order, each line once
abbrev pub FollowsFrom : ℕ → Place → List Act → List StepRec → Place → Type 0
FollowsFrom who p [] es q = (es ≡ []) × (q ≡ p)
FollowsFrom who p (a ∷ acts) es q =
    (mid : Place) × (here rest : List StepRec) × (es ≡ here ++ rest) × Does who a p here mid × FollowsFrom who mid acts rest q

-- These lines of an editor, who has no draft and holds nothing before them, make these entries.
abbrev pub Follows : ℕ → List Act → List StepRec → Type 0
Follows who acts es = (q : Place) × FollowsFrom who free acts es q

-- the lines of one editor
abbrev pub own : ℕ → List ScriptLine → List Act
own who [] = []
own who (l ∷ ls) = if l.editor == who then l.act ∷ own who ls else own who ls
