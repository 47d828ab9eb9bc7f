use Rattle.std.proofs.Common.{◌≡◌, ◌++◌, take, flat_map}
use Rattle.inverse_index.specs.Index.{keys_by}
use Rattle.inverse_index.proofs.standing.push_all_by.Given as goal

abbrev pub invariant-loop-relation : goal.invariant-loop-relation
invariant-loop-relation l = l.keys.items ≡ l.initial.keys.items ++ flat_map (keys_by l.schema l.x) (take l.relation-index l.relation-items)
