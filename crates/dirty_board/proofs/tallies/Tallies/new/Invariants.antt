use Rattle.std.proofs.Common.{◌≡◌, take, map}
use Rattle.dirty_board.specs.Tallying.{empty_tally}
use Rattle.dirty_board.proofs.tallies.Tallies.new.Given as goal

abbrev pub invariant-loop-spec : goal.invariant-loop-spec
invariant-loop-spec l = l.tallies.items ≡ map empty_tally (take l.spec-index l.specs)
