use Rattle.tree_map.proofs.Grouping.{pushed_items, next_items}
use Rattle.tree_map.proofs.group.Opened.with.Goals as goal

pub invariant_of-result : goal.invariant_of-result
invariant_of-result g c =
    (pushed_items c.self.inside.groups.items c.self.inside.high c.self.inside.branches.items c.push.new.self.items c.args.self c.args.key c.args.below c.in_ok-branch.branch
    c.self.invariant c.self.view_is c.requires c.if-key-high.true c.in_ok-branch.ensures c.in_ok-push.ensures.items).0

pub returns-then-key-high : goal.returns-then-key-high
returns-then-key-high g c =
    (pushed_items c.self.inside.groups.items c.self.inside.high c.self.inside.branches.items c.push.new.self.items c.args.self c.args.key c.args.below c.in_ok-branch.branch
    c.self.invariant c.self.view_is c.requires c.if-key-high.true c.in_ok-branch.ensures c.in_ok-push.ensures.items).1

pub invariant_of-result-2 : goal.invariant_of-result-2
invariant_of-result-2 g c =
    (next_items c.self.inside.groups.items c.in_ok-groups.groups.items c.self.inside.high c.self.inside.branches.items c.new-first.result.items c.push-2.new.self.items c.args.self c.args.key c.args.below c.in_ok-branch.branch
    c.self.invariant c.self.view_is c.requires c.if-key-high.false c.in_ok-branch.ensures c.in_ok-groups.ensures c.new-first.ensures.items c.in_ok-push-2.ensures.items).0

pub returns : goal.returns
returns g c =
    (next_items c.self.inside.groups.items c.in_ok-groups.groups.items c.self.inside.high c.self.inside.branches.items c.new-first.result.items c.push-2.new.self.items c.args.self c.args.key c.args.below c.in_ok-branch.branch
    c.self.invariant c.self.view_is c.requires c.if-key-high.false c.in_ok-branch.ensures c.in_ok-groups.ensures c.new-first.ensures.items c.in_ok-push-2.ensures.items).1
