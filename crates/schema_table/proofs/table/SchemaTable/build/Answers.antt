use Rattle.std.proofs.Common.{◌≡◌, subst, None}
use Rattle.schema_table.specs.Schema.{Schema}
use Rattle.schema_table.specs.Declarations.{schema_fault}
use Rattle.schema_table.proofs.Checking.{without_types}
use Rattle.schema_table.proofs.table.SchemaTable.build.Goals as goal

pub lookup_of-requires-clause-faultless : goal.lookup_of-requires-clause-faultless
lookup_of-requires-clause-faultless c =
    without_types c.args.entities c.as_slice-2.result.now (subst (λ (s : Schema). schema_fault s c.as_slice-2.result.now ≡ None) c.as_slice.ensures c.in_ok-numbered.ensures.faultless)
