use Rattle.closure_walk.specs.Walking.{Walking}
use Rattle.closure_walk.proofs.closing.spread.Given as goal

abbrev pub invariant-loop-hops : goal.invariant-loop-hops
invariant-loop-hops g l = Walking (g.S.Step.taken l.step) (g.S.Step.seen l.step) l.starts l.hops l.members.keys l.fresh.items l.fn.reads.items l.reads.items
