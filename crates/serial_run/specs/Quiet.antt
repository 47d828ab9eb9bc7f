-- Histories that go on by entries of one actor that give no report.
use Rattle.std.specs.Prelude.{◌≡◌, ℕ, false, List, [], ◌∷◌, ◌++◌}
use Rattle.audit_model.specs.declared.step.StepRec.{StepRec}
use Rattle.script_rules.specs.Output.{is_report}

-- all of these entries are of this actor and give no report
abbrev pub AreQuiet : ℕ → List StepRec → Type 0
AreQuiet who [] = Unit {0}
AreQuiet who (e ∷ es) = (e.actor ≡ who) × (is_report e.reply ≡ false) × AreQuiet who es

-- the second history goes on from the first by such entries
abbrev pub GoesOn : ℕ → List StepRec → List StepRec → Type 0
GoesOn who h k = (es : List StepRec) × (k ≡ es ++ h) × AreQuiet who es
