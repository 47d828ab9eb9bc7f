use Rattle.std.proofs.Common.{◌≡◌, ◌<◌, length, take}
use Rattle.schema_table.specs.Shares.{AreShares}
use Rattle.schema_table.proofs.shares.attributes_of.Given as goal

abbrev pub invariant-loop-number : goal.invariant-loop-number
invariant-loop-number l = (0 < length l.lists.items) × (length l.shares.items ≡ length l.entities) × AreShares l.entities l.lists.items l.shares.items (take l.number-index l.order)
