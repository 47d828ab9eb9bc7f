use Rattle.std.specs.Prelude.{None}
use Rattle.restrictions.specs.Building.{bounds_of, lengths_of, shape_fault}
use Rattle.restrictions.proofs.BuildLaws.{fault_is, value_is, earlier, later, later_refusal}
use Rattle.restrictions.proofs.build.read.Goals as goal

pub returns-in-Err-clause-refused : goal.returns-in-Err-clause-refused
returns-in-Err-clause-refused c =
    let p = c.args.parts.now in
    earlier p c.in-Err.fault (fault_is (shape_fault p) (bounds_of p, lengths_of p) c.in-Err.fault c.in-Err.ensures)

pub returns-in-Err-patterns-clause-refused : goal.returns-in-Err-patterns-clause-refused
returns-in-Err-patterns-clause-refused c =
    let p = c.args.parts.now in
    let shape = value_is (shape_fault p) (bounds_of p, lengths_of p) (c.in-Ok.bounds, c.in-Ok.lengths) c.in-Ok.ensures in
    later_refusal p c.in-Err-patterns.refusal shape.0 c.in-Err-patterns.ensures.refused

pub returns-in-Ok-patterns-clause-read : goal.returns-in-Ok-patterns-clause-read
returns-in-Ok-patterns-clause-read c =
    let p = c.args.parts.now in
    let shape = value_is (shape_fault p) (bounds_of p, lengths_of p) (c.in-Ok.bounds, c.in-Ok.lengths) c.in-Ok.ensures in
    λ i. (c.in-Ok-patterns.ensures.read i, (shape.1 i).0, (shape.1 i).1)

pub returns-in-Ok-patterns-clause-sound : goal.returns-in-Ok-patterns-clause-sound
returns-in-Ok-patterns-clause-sound c =
    let p = c.args.parts.now in
    let shape = value_is (shape_fault p) (bounds_of p, lengths_of p) (c.in-Ok.bounds, c.in-Ok.lengths) c.in-Ok.ensures in
    later p None shape.0 c.in-Ok-patterns.ensures.sound
