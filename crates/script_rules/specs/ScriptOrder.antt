-- Which lines of an editor may come one after another.
use Rattle.std.specs.Prelude.{◌≡◌, ℕ, Bool, true, false, not, List, [], ◌∷◌}
use Rattle.audit_model.specs.declared.script.Act.{Act}
use Rattle.audit_model.specs.declared.script.Act.TheVariants.{Begin, Change, Commit, Publish, Take, Give, Work}
use Rattle.audit_model.specs.declared.script.ScriptLine.{ScriptLine}
use Rattle.audit_model.specs.declared.script.Phase.{Phase}

-- The line may come, where a draft is open or not, and where a take is held or not: a draft is opened where none is, edits and commits
-- want one, a take and `work` want empty hands, and a give what was taken.
abbrev pub may_come : Bool → Bool → Act → Bool
may_come drafting holding Begin = not drafting
may_come drafting holding (Change e) = drafting
may_come drafting holding Commit = drafting
may_come drafting holding Publish = true
may_come drafting holding Take = not holding
may_come drafting holding Give = holding
may_come drafting holding (Work n) = not holding

-- a draft is open after the line
abbrev pub drafts_after : Bool → Act → Bool
drafts_after drafting Begin = true
drafts_after drafting Commit = false
drafts_after drafting act = drafting

-- a take is held after the line
abbrev pub holds_after : Bool → Act → Bool
holds_after holding Take = true
holds_after holding Give = false
holds_after holding act = holding

-- The lines are all of this editor, may come in this order, and end with no draft open and nothing held.
abbrev pub IsOrderly : ℕ → Bool → Bool → List ScriptLine → Type 0
IsOrderly who drafting holding [] = (drafting ≡ false) × (holding ≡ false)
IsOrderly who drafting holding (l ∷ ls) =
    (l.editor ≡ who) × (may_come drafting holding l.act ≡ true) × IsOrderly who (drafts_after drafting l.act) (holds_after holding l.act) ls

-- each phase is orderly, with no draft open and nothing held before it
abbrev pub AreOrderly : ℕ → List Phase → Type 0
AreOrderly who [] = Unit {0}
AreOrderly who (p ∷ ps) = IsOrderly who false false p.lines × AreOrderly who ps
