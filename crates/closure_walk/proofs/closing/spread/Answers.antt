use Rattle.std.proofs.Common.{rules, ◌≡◌, ◌≤◌, ◌++◌, [], arith, length}
use Rattle.std.specs.List.{flat_map}
use Rattle.audit_model.specs.Ascending.{union}
use Rattle.closure_walk.proofs.Rounds.{start_at, more_at, end_at, empty_from_length}
use Rattle.closure_walk.proofs.closing.spread.Goals as goal

pub loop-hops-init : goal.loop-hops-init
loop-hops-init g c = start_at _ _ c.args.starts.now c.new-members.result.keys _ _ _ (search rules) c.in_ok-add_all.ensures.members c.in_ok-add_all.ensures.fresh

pub returns-then-is_empty : goal.returns-then-is_empty
returns-then-is_empty g c =
    let none : length c.loop-hops.fresh.items ≡ 0 = search rules in
    let e : c.loop-hops.fresh.items ≡ [] = empty_from_length _ none in
    let l : c.loop-hops.hops ≤ c.args.most = omega arith in
    end_at _ _ c.args.starts.now c.loop-hops.hops c.args.most _ _ _ _ l e c.loop-hops.invariant

pub loop-hops-preserved : goal.loop-hops-preserved
loop-hops-preserved g c =
    let ends : c.step_all.new.ends.items ≡ flat_map (λ x. (g.S.Step.taken c.args.step.now x).answer (g.S.Step.seen c.args.step.now)) c.loop-hops.fresh.items = search rules in
    let after : c.add_all-in-loop-hops.new.members.keys ≡ union c.loop-hops.members.keys c.step_all.new.ends.items = search rules in
    let reads : c.step_all.new.reads.items ≡ c.loop-hops.reads.items ++ flat_map (λ x. (g.S.Step.taken c.args.step.now x).keys (g.S.Step.seen c.args.step.now)) c.loop-hops.fresh.items = search rules in
    more_at _ _ c.args.starts.now c.loop-hops.hops c.loop-hops.members.keys c.loop-hops.fresh.items c.step_all.new.ends.items _ _ _ c.loop-hops.reads.items _ c.loop-hops.invariant ends after c.in_ok-add_all-2.ensures.fresh reads
