use Rattle.std.proofs.Common.{◌==◌, sym}
use Rattle.pair_eval.proofs.Places.{found_few}
use Rattle.pair_eval.proofs.assessing.assess_pair.Goals as goal

pub assess-requires : goal.assess-requires
assess-requires g c = found_few (λ q. q.number == c.args.pair.spec) c.args.specs.now c.in-Some.spec.now c.requires.each (sym c.in-Some.ensures)
