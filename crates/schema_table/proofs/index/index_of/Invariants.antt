use Rattle.std.proofs.Common.{take}
use Rattle.schema_table.specs.Index.{IsIndex}
use Rattle.schema_table.proofs.index.index_of.Given as goal

abbrev pub invariant-loop-number : goal.invariant-loop-number
invariant-loop-number l = IsIndex (take l.number l.entities) l.index
