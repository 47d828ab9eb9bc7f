use Rattle.facet_own.proofs.Zipped.{undeclared_weighed}
use Rattle.facet_own.proofs.attribute.weigh_instance.Goals as goal

pub returns-in-None : goal.returns-in-None
returns-in-None c = undeclared_weighed c.args.schema.now c.args.facet.now c.args.x.now.entity c.args.x.now.params c.in-None.ensures.declared
