use Rattle.std.proofs.Common.{◌≡◌, ◌++◌, length}
use Rattle.inverse_index.proofs.difference.ascending_keys.Given as goal

abbrev pub invariant-loop-key : goal.invariant-loop-key
invariant-loop-key l = l.sorted.items ++ l.set.keys ≡ l.initial.set.keys

abbrev pub decreases-loop-key : goal.decreases-loop-key
decreases-loop-key l = length l.set.keys
