-- The text of a report: the revision, a line for each specification followed by its failing elements, and whether all pass.
-- Each line ends with a line feed.
use Rattle.std.specs.Prelude.{ℕ, ◌+◌, Bool, ◌||◌, ◌&&◌, ◌==◌, nat_lt, List, [], ◌∷◌, ◌++◌, length, codes, if◌then◌else◌}
use Rattle.std.specs.List.{list_all}
use Rattle.std.specs.Fmt.{decimal}
use Rattle.ifc_base.specs.declared.value.Instance.{Instance}
use Rattle.audit_model.specs.declared.specification.Occurs.{Occurs}
use Rattle.audit_model.specs.declared.specification.Occurs.TheVariants as occurrence
use Rattle.audit_model.specs.declared.specification.Specification.{Specification}
use Rattle.audit_model.specs.declared.report.Failing.{Failing}
use Rattle.audit_model.specs.declared.report.Tally.{Tally}
use Rattle.schema_table.specs.Schema.{Schema}
use Rattle.audit_model.specs.Scratch.{scratch}

-- An optional specification passes where no element fails it, a required one where moreover it applies to some element, a
-- prohibited one where it applies to none.
abbrev pub passes_as : Occurs → Bool → ℕ → Bool
passes_as occurrence.Optional none_fails applicable = none_fails
passes_as occurrence.Required none_fails applicable = none_fails && nat_lt 0 applicable
passes_as occurrence.Prohibited none_fails applicable = applicable == 0

abbrev pub passes : Tally → Bool
passes t = passes_as t.occurs (length t.failing == 0) t.applicable

-- every specification that isn't skipped passes
abbrev pub all_pass : List Tally → Bool
all_pass tallies = list_all (λ t. t.skipped || passes t) tallies

-- a line feed behind the text
abbrev pub line : List ℕ → List ℕ
line text = text ++ 10 ∷ []

-- the numbers, a blank before each
abbrev pub numbers : List ℕ → List ℕ
numbers [] = []
numbers (n ∷ ns) = codes " " ++ decimal n ++ numbers ns

-- what stands behind the id of a failing element
abbrev pub failing_why : Occurs → List ℕ → List ℕ
failing_why occurrence.Prohibited ns = codes " prohibited"
failing_why occurrence.Required ns = numbers ns
failing_why occurrence.Optional ns = numbers ns

-- `fail #E 1 3`, or `fail #E prohibited`
abbrev pub failing_line : Occurs → Failing → List ℕ
failing_line occurs f = line (codes "fail #" ++ decimal f.elem ++ failing_why occurs f.requirements)

abbrev pub failing_lines : Occurs → List Failing → List ℕ
failing_lines occurs [] = []
failing_lines occurs (f ∷ fs) = failing_line occurs f ++ failing_lines occurs fs

abbrev pub pass_word : Bool → List ℕ
pass_word passed = if passed then codes "pass" else codes "fail"

-- ` pass applicable A failed F`, or ` fail applicable A failed F`
abbrev pub counts : Tally → List ℕ
counts t = codes " " ++ pass_word (passes t) ++ codes " applicable " ++ decimal t.applicable ++ codes " failed " ++ decimal (length t.failing)

-- the lines of the specification of number n: `spec N skipped`, or its counts and then its failing elements
abbrev pub tally_lines : ℕ → Tally → List ℕ
tally_lines n t =
    if t.skipped then line (codes "spec " ++ decimal n ++ codes " skipped")
    else line (codes "spec " ++ decimal n ++ counts t) ++ failing_lines t.occurs t.failing

-- the lines of the specifications, the first being of number n
abbrev pub tallies_lines : ℕ → List Tally → List ℕ
tallies_lines n [] = []
tallies_lines n (t ∷ ts) = tally_lines n t ++ tallies_lines (n + 1) ts

unfoldable pub report_text : ℕ → List Tally → List ℕ
report_text revision tallies =
    line (codes "report " ++ decimal revision) ++ tallies_lines 1 tallies ++ line (codes "end " ++ pass_word (all_pass tallies))

-- the text of the audit from scratch of a model at a revision
abbrev pub audit_text : Schema → List Specification → List Instance → ℕ → List ℕ
audit_text s specs m revision = report_text revision (scratch s specs m)
