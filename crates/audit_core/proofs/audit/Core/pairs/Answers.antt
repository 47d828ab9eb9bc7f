use Rattle.std.proofs.Common.{◌∙◌, ap, length, List}
use Rattle.dirty_board.specs.declared.rows.Row.{Row}
use Rattle.audit_core.proofs.CommitLaws.{rows_counted}
use Rattle.audit_core.proofs.audit.Core.pairs.Goals as goal

pub returns-clause-pairs : goal.returns-clause-pairs
returns-clause-pairs c = rw (← c.self.view_is) (ap (λ (rows : List Row). length rows) c.rows.ensures ∙ rows_counted c.self.invariant)
