use Rattle.facet_property.proofs.Weighed.{weighed_made}
use Rattle.facet_property.specs.Held.{properties_of}
use Rattle.facet_property.proofs.weighing.weigh_found.Goals as goal

pub returns : goal.returns
returns c =
    weighed_made c.args.schema.now c.args.facet.now c.args.names.now c.judge_all.new.valued.items (properties_of c.args.properties.now) c.in_ok-all.all _ _
    c.in_ok-all.ensures.judged (rw c.new-valued.ensures.items at c.in_ok-all.ensures.valued) (rw c.as_slice.ensures.value at c.in_ok-have_values.ensures) c.holds_by-holds.ensures
