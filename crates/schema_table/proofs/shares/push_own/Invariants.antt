use Rattle.std.proofs.Common.{◌≡◌, ◌++◌, map, take, length}
use Rattle.std.specs.List.{slice_get}
use Rattle.schema_table.specs.Schema.{upwards}
use Rattle.schema_table.specs.Shares.{slot_of}
use Rattle.schema_table.proofs.shares.push_own.Given as goal

abbrev pub invariant-loop-name : goal.invariant-loop-name
invariant-loop-name l = l.list ≡ l.fn.list ++ map (slot_of (upwards l.entities (length l.entities) (slice_get l.entities l.number))) (take l.name-index l.entity.own)
