use Rattle.std.proofs.Common.{◌<◌, ◌++◌, ◌-◌, ◌^◌, ◌∙◌, map, ap, sym, subst, arith}
use Rattle.tree_map.specs.Pairs.{raised, joined, AreBelow, AllBranches}
use Rattle.tree_map.specs.Roots.{seen}
use Rattle.tree_map.proofs.Listing.{digit_at, whole_at, first_is, list_branch, took_all}
use Rattle.tree_map.proofs.level.LevelTier.list.Goals as goal

pub start-first-requires-clause-digit : goal.start-first-requires-clause-digit
start-first-requires-clause-digit g c =
    let below : AreBelow 32 c.deref-branch-items.result.now = rw c.deref-branch-items.ensures.value c.requires.whole.1 in
    let small : c.branch-item.result.0 < 32 = digit_at 32 c.deref-branch-items.result.now c.loop-branch.branch-index c.branch-item.result below c.loop-branch-test.true c.branch-item.is in
    subst (λ n. n < 32) (sym c.digit.ensures) small

pub list-requires-clause-whole : goal.list-requires-clause-whole
list-requires-clause-whole g c =
    let all : AllBranches g.B.Tier.IsWhole c.deref-branch-items.result.now = rw c.deref-branch-items.ensures.value c.requires.whole.2 in
    subst g.B.Tier.IsWhole (sym c.below.ensures) (whole_at g.B.Tier.IsWhole c.deref-branch-items.result.now c.loop-branch.branch-index c.branch-item.result all c.loop-branch-test.true c.branch-item.is)

pub loop-branch-preserved : goal.loop-branch-preserved
loop-branch-preserved g c =
    list_branch (2 ^ g.B.Tier.width) g.B.Tier.pairs c.args.from c.start-first.result (map seen c.args.into.now.items) (map seen c.loop-branch.into.items) (map seen c.list.new.into.items) c.deref-branch-items.result.now c.loop-branch.branch-index c.branch-item.result c.loop-branch-test.true c.branch-item.is
    (first_is c.args.from c.start-first.result c.digit.result (c.args.bits - 5) g.B.Tier.width c.branch-item.result.0 c.start-first.ensures.value c.digit.ensures (omega arith))
    c.loop-branch.invariant
    (c.in_ok-list.ensures ∙ ap (λ t. map seen c.loop-branch.into.items ++ raised c.start-first.result (g.B.Tier.pairs t)) c.below.ensures)

pub returns : goal.returns
returns g c =
    c.loop-branch.invariant
    ∙ ap (λ bs. map seen c.args.into.now.items ++ raised c.args.from (joined (2 ^ g.B.Tier.width) g.B.Tier.pairs bs)) (took_all c.loop-branch.branch-index c.deref-branch-items.result.now c.args.self.now.branches.items c.loop-branch-test.false c.deref-branch-items.ensures.value)
