use Rattle.std.proofs.Common.{◌∙◌, ap, sym, subst}
use Rattle.tree_map.specs.Groups.{parted, AreGroups}
use Rattle.tree_map.proofs.Grouping.{closed_all, closed_groups}
use Rattle.tree_map.proofs.group.Opened.into_groups.Goals as goal

pub returns-clause-groups : goal.returns-clause-groups
returns-clause-groups g c = subst AreGroups (sym c.in_ok-groups.ensures) (closed_groups c.self.inside.groups.items c.self.inside.high c.self.inside.branches.items c.self.invariant)

pub returns-clause-same : goal.returns-clause-same
returns-clause-same g c = ap parted c.in_ok-groups.ensures ∙ closed_all c.self.inside.groups.items c.self.inside.high c.self.inside.branches.items c.self.invariant ∙ c.self.view_is
