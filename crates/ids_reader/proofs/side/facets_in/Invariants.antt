use Rattle.std.proofs.Common.{◌≡◌}
use Rattle.ids_reader.specs.Sides.{alone}
use Rattle.ids_reader.proofs.side.facets_in.Given as goal

-- the facets of the requirements so far
abbrev pub invariant-loop-requirement : goal.invariant-loop-requirement
invariant-loop-requirement l = l.facets.items ≡ alone l.yielded
