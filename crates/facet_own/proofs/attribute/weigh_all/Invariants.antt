use Rattle.std.proofs.Common.{◌≡◌, take}
use Rattle.std.specs.List.{zip}
use Rattle.facet_own.specs.Attributes.{slots_weighed}
use Rattle.facet_own.proofs.attribute.weigh_all.Given as goal

abbrev pub invariant-loop-at : goal.invariant-loop-at
invariant-loop-at l = l.all ≡ slots_weighed l.facet (take l.at (zip l.slots l.values))
