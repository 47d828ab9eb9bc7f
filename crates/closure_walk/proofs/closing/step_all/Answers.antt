use Rattle.std.proofs.Common.{◌++◌, ◌∙◌, ap}
use Rattle.std.specs.List.{flat_map}
use Rattle.std.proofs.lemmas.List.{take_all}
use Rattle.closure_walk.proofs.closing.step_all.Goals as goal

pub returns-clause-reads : goal.returns-clause-reads
returns-clause-reads g c =
    c.loop-id.invariant.reads ∙ ap (λ xs. c.args.reads.now.items ++ flat_map (λ x. (g.S.Step.taken c.args.step.now x).keys (g.S.Step.seen c.args.step.now)) xs) (take_all c.loop-id.id-index c.args.fresh.now c.loop-id-test.false)
