use Rattle.std.proofs.Common.{◌≡◌, take, filter_map}
use Rattle.schema_table.specs.Relationships.{relation}
use Rattle.schema_table.proofs.relation.relations_of.Given as goal

abbrev pub invariant-loop-role : goal.invariant-loop-role
invariant-loop-role l = l.found.items ≡ filter_map (relation l.lookup) (take l.role-index l.role-items)
