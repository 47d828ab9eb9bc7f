-- What bytes spell a script, by cases.
use Rattle.std.specs.Prelude.{◌≡◌, ℕ, ◌<◌, true, false, List, [], ◌∷◌, Some, None}
use Rattle.audit_model.specs.declared.commit.Edit.{Edit}
use Rattle.audit_model.specs.declared.script.Act.TheVariants.{Begin, Change, Commit, Publish, Take, Give, Work}
use Rattle.script_read.specs.declared.read.Script.{Script}
use Rattle.script_read.specs.Faults.{most_edits}
use Rattle.script_read.specs.Lines.{script_lines}
use Rattle.script_read.specs.LineGrammar.{Says}
use Rattle.script_read.specs.Said.{Said, nothing, editor, does, sync, is_editor}
use Rattle.script_read.specs.Standing.{own, holds, draft, somebody_holds, somebody_drafts, ends_in_sync, phases_of}

-- What may come behind these lines, the last of which stands first. `open` wants no draft, edits and `commit` want one, and an edit one that
-- has room; `take` and `work` want that nothing is held, and `give` that a take is held, all of the editor whose line it is. At `sync` no
-- editor holds and none has a draft.
pub data MayCome (came : List Said) : Said → Type 0 where
  nothing_may : MayCome came nothing
  editor_may : (k : ℕ) → is_editor k ≡ true → MayCome came (editor k)
  open_may : draft (own came) ≡ None → MayCome came (does Begin)
  edit_may : (e : Edit) (n : ℕ) → draft (own came) ≡ Some n → n < most_edits → MayCome came (does (Change e))
  commit_may : (n : ℕ) → draft (own came) ≡ Some n → MayCome came (does Commit)
  publish_may : MayCome came (does Publish)
  take_may : holds (own came) ≡ false → MayCome came (does Take)
  give_may : holds (own came) ≡ true → MayCome came (does Give)
  work_may : (n : ℕ) → holds (own came) ≡ false → MayCome came (does (Work n))
  sync_may : somebody_holds came ≡ false → somebody_drafts came ≡ false → MayCome came sync

-- Behind the lines that came these come, each of which says what may come there; with them all lines are the last list.
pub data Come : List Said → List (List ℕ) → List Said → Type 0 where
  all : (came : List Said) → Come came [] came
  one : (came : List Said) (text : List ℕ) (said : Said) (texts : List (List ℕ)) (whole : List Said) → Says text said → MayCome came said
      → Come (said ∷ came) texts whole → Come came (text ∷ texts) whole

-- The bytes spell this script: its lines may come, the last that isn't empty is `sync`, and the phases are those that have ended.
pub record ReadsScript (bytes : List ℕ) (s : Script) : Type 0 where
  pub said : List Said
  pub lines : Come [] (script_lines bytes) said
  pub ends : ends_in_sync said ≡ true
  pub phases : s.phases ≡ phases_of said
