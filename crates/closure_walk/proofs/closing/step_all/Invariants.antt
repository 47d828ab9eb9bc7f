use Rattle.std.proofs.Common.{◌≡◌, ◌++◌, take}
use Rattle.std.specs.List.{flat_map}
use Rattle.closure_walk.proofs.closing.step_all.Given as goal

abbrev pub invariant-loop-id : goal.invariant-loop-id
invariant-loop-id g l = record {
  ends : l.ends.items ≡ l.initial.ends.items ++ flat_map (λ x. (g.S.Step.taken l.step x).answer (g.S.Step.seen l.step)) (take l.id-index l.fresh);
  reads : l.reads.items ≡ l.initial.reads.items ++ flat_map (λ x. (g.S.Step.taken l.step x).keys (g.S.Step.seen l.step)) (take l.id-index l.fresh);
}
