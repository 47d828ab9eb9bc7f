-- What a line leaves, and what its editor is told.
use Rattle.std.specs.Prelude.{◌≡◌, ℕ, Bool, List, [], ◌∷◌, ◌++◌, if◌then◌else◌, Option, Some, None, Result, Ok, Err}
use Rattle.audit_model.specs.declared.script.Act.{Act}
use Rattle.audit_model.specs.declared.script.Act.TheVariants.{Begin, Change, Commit, Publish, Take, Give, Work}
use Rattle.audit_model.specs.Machine.{publish_reply}
use Rattle.script_rules.specs.Output.{report_in}
use Rattle.script_rules.specs.Serial.{Done}
use Rattle.model_view.specs.declared.answers.Halt.{Halt}
use Rattle.audit_core.specs.Cores.{CoreView}
use Rattle.serial_run.specs.declared.editor.Editor.{Editor}
use Rattle.serial_run.specs.Course.{IsDone, IsStopped, text_in}

-- the text of the report that the line gave: that of the reply to a publish, and none of any other line
abbrev pub report_of : Act → CoreView → CoreView → List ℕ
report_of Publish old new = report_in new.ground new.history (publish_reply old.ground old.history)
report_of act old new = []

abbrev pub Acts : Done → Act → CoreView → CoreView → ℕ → Result (Editor × Option (List ℕ)) Halt → Type 0
Acts d act old new who (Ok done) = IsDone d old new who done.0 × (text_in done.1 ≡ report_of act old new)
Acts d act old new who (Err why) = IsStopped why d old new
