-- The audit from scratch: every specification is asked of every instance of the model.
use Rattle.std.specs.Prelude.{ℕ, Bool, true, false, List, [], ◌∷◌, map, length, filter, filter_map, Option, Some, None, if◌then◌else◌}
use Rattle.ifc_base.specs.declared.value.Instance.{Instance}
use Rattle.schema_table.specs.Schema.{Schema}
use Rattle.audit_model.specs.declared.specification.Occurs.{Occurs}
use Rattle.audit_model.specs.declared.specification.Occurs.TheVariants as occurrence
use Rattle.audit_model.specs.declared.specification.Specification.{Specification}
use Rattle.audit_model.specs.declared.verdict.Verdict.{Verdict}
use Rattle.audit_model.specs.declared.verdict.Verdict.TheVariants.{NotApplicable, Applicable}
use Rattle.audit_model.specs.declared.report.Failing.{Failing}
use Rattle.audit_model.specs.declared.report.Tally.{Tally}
use Rattle.audit_model.specs.Verdicts.{verdict_of}

abbrev pub applies : Verdict → Bool
applies NotApplicable = false
applies (Applicable ns) = true

-- An element fails where the specification applies to it and is prohibited, or some requirement isn't met.
abbrev pub failing_of : Occurs → ℕ → Verdict → Option Failing
failing_of occurs e NotApplicable = None
failing_of occurrence.Prohibited e (Applicable ns) = Some (record { elem = e; requirements = ns })
failing_of occurrence.Required e (Applicable []) = None
failing_of occurrence.Required e (Applicable (n ∷ ns)) = Some (record { elem = e; requirements = n ∷ ns })
failing_of occurrence.Optional e (Applicable []) = None
failing_of occurrence.Optional e (Applicable (n ∷ ns)) = Some (record { elem = e; requirements = n ∷ ns })

-- the tally of these verdicts, each beside its element
abbrev pub tally_from : Occurs → List (ℕ × Verdict) → Tally
tally_from occurs vs =
    record { skipped = false; occurs = occurs; applicable = length (filter (λ v. applies v.1) vs); failing = filter_map (λ v. failing_of occurs v.0 v.1) vs }

-- the tally of a specification that isn't for the model
abbrev pub skipped_tally : Occurs → Tally
skipped_tally occurs = record { skipped = true; occurs = occurs; applicable = 0; failing = [] }

-- the specification asked of every instance
abbrev pub tally : Schema → Specification → List Instance → Tally
tally s q m = if q.for_model then tally_from q.occurs (map (λ x. (x.id, verdict_of s q x.id m)) m) else skipped_tally q.occurs

unfoldable pub scratch : Schema → List Specification → List Instance → List Tally
scratch s specs m = map (λ q. tally s q m) specs
