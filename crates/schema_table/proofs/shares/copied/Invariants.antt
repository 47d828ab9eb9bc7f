use Rattle.std.proofs.Common.{◌≡◌, map, take}
use Rattle.schema_table.specs.Shares.{redeclared}
use Rattle.schema_table.proofs.shares.copied.Given as goal

abbrev pub invariant-loop-slot : goal.invariant-loop-slot
invariant-loop-slot l = l.copies.items ≡ map (redeclared l.derived) (take l.slot-index l.slots)
