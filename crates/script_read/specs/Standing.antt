-- What lines of a script have led to. Lines that came stand here with the last one first.
use Rattle.std.specs.Prelude.{ℕ, suc, Bool, true, false, List, [], ◌∷◌, ◌++◌, Option, Some, None, option_map, ◌==◌, if◌then◌else◌}
use Rattle.std.specs.List.{list_any}
use Rattle.audit_model.specs.declared.script.Act.{Act}
use Rattle.audit_model.specs.declared.script.Act.TheVariants.{Begin, Change, Commit, Publish, Take, Give, Work}
use Rattle.audit_model.specs.declared.script.Phase.{Phase}
use Rattle.audit_model.specs.declared.script.ScriptLine.{ScriptLine}
use Rattle.script_read.specs.Said.{Said, nothing, editor, does, sync}

-- whose lines follow: at the start and after a `sync` those of editor 1
abbrev pub editor_of : List Said → ℕ
editor_of [] = 1
editor_of (editor k ∷ came) = k
editor_of (sync ∷ came) = 1
editor_of (other ∷ came) = editor_of came

abbrev pub line : ℕ → Act → ScriptLine
line who act = record { editor = who; act = act }

-- the lines since the last `sync`, in their order
abbrev pub lines_since : List Said → List ScriptLine
lines_since [] = []
lines_since (does act ∷ came) = lines_since came ++ line (editor_of came) act ∷ []
lines_since (sync ∷ came) = []
lines_since (other ∷ came) = lines_since came

abbrev pub phase : List ScriptLine → Phase
phase lines = record { lines = lines }

-- the phases that have ended, in their order
abbrev pub phases_of : List Said → List Phase
phases_of [] = []
phases_of (sync ∷ came) = phases_of came ++ phase (lines_since came) ∷ []
phases_of (other ∷ came) = phases_of came

-- an editor's acts, the last one first
abbrev pub acts_of : ℕ → List Said → List Act
acts_of who [] = []
acts_of who (does act ∷ came) = if who == editor_of came then act ∷ acts_of who came else acts_of who came
acts_of who (other ∷ came) = acts_of who came

-- The editor holds: of its takes and gives the last is a take.
abbrev pub holds : List Act → Bool
holds [] = false
holds (Take ∷ acts) = true
holds (Give ∷ acts) = false
holds (other ∷ acts) = holds acts

-- How many edits the editor's draft has: those since its last `open`. None where it has no draft, since a `commit` or nothing stands there.
abbrev pub draft : List Act → Option ℕ
draft [] = None
draft (Begin ∷ acts) = Some 0
draft (Change e ∷ acts) = option_map suc (draft acts)
draft (Commit ∷ acts) = None
draft (other ∷ acts) = draft acts

abbrev pub is_some : {A : Type 0} → Option A → Bool
is_some None = false
is_some (Some x) = true

abbrev pub editors : List ℕ
editors = 1 ∷ 2 ∷ 3 ∷ 4 ∷ 5 ∷ 6 ∷ 7 ∷ 8 ∷ 9 ∷ 10 ∷ 11 ∷ 12 ∷ 13 ∷ 14 ∷ 15 ∷ 16 ∷ []

-- the acts of the editor whose lines follow
abbrev pub own : List Said → List Act
own came = acts_of (editor_of came) came

-- some editor holds
abbrev pub somebody_holds : List Said → Bool
somebody_holds came = list_any (λ k. holds (acts_of k came)) editors

-- some editor has a draft
abbrev pub somebody_drafts : List Said → Bool
somebody_drafts came = list_any (λ k. is_some (draft (acts_of k came))) editors

-- the last line that isn't empty is `sync`
abbrev pub ends_in_sync : List Said → Bool
ends_in_sync [] = false
ends_in_sync (nothing ∷ came) = ends_in_sync came
ends_in_sync (sync ∷ came) = true
ends_in_sync (other ∷ came) = false
