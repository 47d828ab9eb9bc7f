-- What an evaluation finds.
use Rattle.std.specs.Prelude.{◌≡◌, List}
use Rattle.schema_table.specs.Schema.{Schema}
use Rattle.audit_model.specs.declared.specification.Specification.{Specification}
use Rattle.audit_model.specs.Needs.{need}
use Rattle.audit_model.specs.Verdicts.{verdict}
use Rattle.model_view.specs.Views.{ClaimView, FindingView}

-- the verdict and needs of the claim's pair at its snapshot
pub record IsFindingOf (s : Schema) (specs : List Specification) (claim : ClaimView) (finding : FindingView) : Type 0 where
  pub claim_is : finding.claim ≡ claim
  pub verdict_is : finding.verdict ≡ verdict s specs claim.pair claim.snapshot.model
  pub needs_are : finding.needs ≡ need s specs claim.pair claim.snapshot.model
