use Rattle.std.proofs.Common.{◌≡◌, false, take}
use Rattle.std.specs.Prelude.{is_some}
use Rattle.std.specs.List.{list_any}
use Rattle.facet_partof.proofs.part_of.is_any_there.Given as goal

abbrev pub invariant-loop-id : goal.invariant-loop-id
invariant-loop-id g l = list_any (λ i. is_some ((g.L.Look.seen l.look).instance i)) (take l.id-index l.ids) ≡ false
