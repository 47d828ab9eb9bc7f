use Rattle.std.proofs.Common.{◌≡◌, [], take, drop, reverse}
use Rattle.schema_table.specs.Declarations.{entity_fault}
use Rattle.schema_table.proofs.checks.names_fault.Given as goal

abbrev pub invariant-loop-number : goal.invariant-loop-number
invariant-loop-number l = entity_fault l.entities [] l.entities ≡ entity_fault l.entities (reverse (take l.number l.entities)) (drop l.number l.entities)
