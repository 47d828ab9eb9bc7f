use Rattle.std.proofs.Common.{◌≡◌, ◌+◌, ◌*◌, length}
use Rattle.reading.specs.Codes.{codes_of}
use Rattle.reading.specs.Reading.{◌>>=◌, all_turns}
use Rattle.reading_tests.specs.declared.tree.Cause.TheVariants.{BadToken}
use Rattle.reading_tests.specs.Nest.{list, list_turn, list_end, tree}
use Rattle.reading_tests.proofs.read.+read.Given as goal

abbrev pub decreases-tree : goal.decreases-tree
decreases-tree l = 2 * l.depth

abbrev pub decreases-list : goal.decreases-list
decreases-list l = 2 * l.depth + 1

abbrev pub invariant-list-loop-items : goal.invariant-list-loop-items
invariant-list-loop-items l =
    list (tree l.fn.depth) (codes_of l.fn.at) l.fn.cursor
    ≡ (all_turns BadToken (list_turn (tree l.fn.depth) (codes_of l.fn.at)) l.items l.here >>= list_end)

abbrev pub decreases-list-loop-items : goal.decreases-list-loop-items
decreases-list-loop-items l = length l.here
