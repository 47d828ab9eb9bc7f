use Rattle.std.proofs.Common.{sym, ap, ◌∙◌}
use Rattle.std.specs.Ordering.{is_eq}
use Rattle.std.proofs.lemmas.Bool.Decides.{Decides-at}
use Rattle.ifc_base.specs.ValueOrder.{node_eq-Decides, node_ties}
use Rattle.ifc_base.proofs.order.ValueNodePartialEq.eq.Goals as goal

eq : goal.returns-clause-eq
eq c = c.is_eq.ensures ∙ ap is_eq c.order.ensures ∙ sym (node_ties c.args.self.now c.args.other.now)

pub returns-clause-same : goal.returns-clause-same
returns-clause-same c = Decides-at _ _ (eq c) (node_eq-Decides c.args.self.now c.args.other.now)

pub returns-clause-eq : goal.returns-clause-eq
returns-clause-eq c = eq c
