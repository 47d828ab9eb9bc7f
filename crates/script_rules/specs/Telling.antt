-- The text of a history as it grows, entry by entry: that of its whole phases, and the lines of the phase that goes on. Histories
-- stand here with the newest entry first. One editor makes the lines, so they come in the order of the entries.
use Rattle.std.specs.Prelude.{ℕ, Bool, ◌==◌, nat_le, List, [], ◌∷◌, ◌++◌, if◌then◌else◌}
use Rattle.std.specs.List.{list_all}
use Rattle.audit_model.specs.declared.step.StepRec.{StepRec}
use Rattle.audit_model.specs.History.{Ground}
use Rattle.script_rules.specs.Output.{ends_phase, entry_text, report_in}

-- the text of the whole phases, and the lines behind them
pub record Told : Type 0 where
  pub whole : List ℕ
  pub lines : List ℕ

-- what is told after one more entry, e, which makes the history h
abbrev pub told_more : Ground → List StepRec → StepRec → Told → Told
told_more g h e t =
    if ends_phase e then record { whole = t.whole ++ t.lines ++ report_in g h e.reply; lines = [] }
    else if e.actor == 0 then t
    else record { whole = t.whole; lines = t.lines ++ entry_text g h e }

abbrev pub told : Ground → List StepRec → Told
told g [] = record { whole = []; lines = [] }
told g (e ∷ h) = told_more g (e ∷ h) e (told g h)

-- all entries are of actor 0 and editor 1
abbrev pub is_of_one_editor : List StepRec → Bool
is_of_one_editor h = list_all (λ e. nat_le e.actor 1) h
