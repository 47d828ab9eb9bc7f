use Rattle.closure_walk.proofs.FacetRows.{facet_looks_along_rows}
use Rattle.closure_walk.proofs.laws.facet_looks_along_rows.Goals as goal

pub returns : goal.returns
returns c = facet_looks_along_rows
