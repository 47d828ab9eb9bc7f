use Rattle.restrictions.proofs.AdmitLaws.{enumerations_widen, patterns_widen, bounds_narrow}
use Rattle.restrictions.proofs.laws.further_parts.Goals as goal

pub returns-clause-enumerations : goal.returns-clause-enumerations
returns-clause-enumerations c = enumerations_widen

pub returns-clause-patterns : goal.returns-clause-patterns
returns-clause-patterns c = patterns_widen

pub returns-clause-bounds : goal.returns-clause-bounds
returns-clause-bounds c = bounds_narrow
