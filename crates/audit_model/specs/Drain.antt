-- A drain: all that is unsettled is worked off by one actor alone, and the report is published. Entries stand here in the order of
-- the journal.
use Rattle.std.specs.Prelude.{◌≡◌, ℕ, ◌+◌, not, List, [], ◌∷◌, ◌++◌, filter, reverse}
use Rattle.audit_model.specs.declared.verdict.Pair.{Pair}
use Rattle.audit_model.specs.declared.step.Call.{Call}
use Rattle.audit_model.specs.declared.step.Call.TheVariants.{Claim, Deliver, Publish}
use Rattle.audit_model.specs.declared.step.Reply.{Reply}
use Rattle.audit_model.specs.declared.step.Reply.TheVariants.{Claimed, Idle, Used, Report}
use Rattle.audit_model.specs.declared.step.StepRec.{StepRec}
use Rattle.audit_model.specs.Models.{IsModel}
use Rattle.audit_model.specs.Pairs.{NumberedFrom}
use Rattle.audit_model.specs.History.{Ground, pairs_in, revision, given, out, settled}
use Rattle.audit_model.specs.Machine.{Legal, pairs_now}

-- an entry of actor 0, the caller of the program's run
abbrev pub caller_entry : Call → Reply → StepRec
caller_entry call reply = record { actor = 0; call = call; reply = reply }

-- Rounds of Claim and Deliver by actor 0 until a Claim is answered Idle, and then one Publish.
pub data IsDrain : List StepRec → Type 0 where
  stops : {reply : Reply} → IsDrain (caller_entry Claim Idle ∷ caller_entry Publish reply ∷ [])
  goes_on : {n : ℕ} {p : Pair} {r : ℕ} {reply : Reply} {es : List StepRec} → IsDrain es → IsDrain (caller_entry Claim (Claimed n p r) ∷ caller_entry (Deliver n) reply ∷ es)

-- The entries of a drain of these pairs at revision r while nobody else calls. The first claim has the number n.
abbrev pub drain_from : ℕ → ℕ → List Pair → List StepRec
drain_from n r [] = caller_entry Claim Idle ∷ caller_entry Publish (Report r) ∷ []
drain_from n r (p ∷ ps) = caller_entry Claim (Claimed n p r) ∷ caller_entry (Deliver n) Used ∷ drain_from (n + 1) r ps

-- the drain of a file of which nothing was audited yet
abbrev pub drain : Ground → List StepRec
drain g = drain_from 1 0 (pairs_in g g.first)

-- the unsettled pairs of the current model
abbrev pub unsettled : Ground → List StepRec → List Pair
unsettled g h = filter (λ p. not (settled g h p)) (pairs_now g h)

-- the drain after a history in which no claim is out
abbrev pub drain_after : Ground → List StepRec → List StepRec
drain_after g h = drain_from (given h + 1) (revision h) (unsettled g h)

-- After a legal history in which no claim is out, `drain_after` is a drain, it goes on legally, and no other drain does.
abbrev pub DrainFollows : Type 0
DrainFollows = (g : Ground) (h : List StepRec) → NumberedFrom 1 g.specs → IsModel g.first → Legal g h → out h ≡ [] →
    IsDrain (drain_after g h) × Legal g (reverse (drain_after g h) ++ h)
    × ((es : List StepRec) → IsDrain es → Legal g (reverse es ++ h) → es ≡ drain_after g h)

-- The drain of a file is a drain, it is a legal history, and no other drain is.
abbrev pub DrainOfFile : Type 0
DrainOfFile = (g : Ground) → NumberedFrom 1 g.specs → IsModel g.first →
    IsDrain (drain g) × Legal g (reverse (drain g)) × ((es : List StepRec) → IsDrain es → Legal g (reverse es) → es ≡ drain g)
