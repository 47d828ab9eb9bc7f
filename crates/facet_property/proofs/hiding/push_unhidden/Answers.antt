use Rattle.facet_property.proofs.Stored.{unhidden}
use Rattle.facet_property.proofs.hiding.push_unhidden.Goals as goal

pub returns : goal.returns
returns c = unhidden c.in_ok-names.names.keys c.args.own.now.items c.args.inherited.now c.push_apart.new.reaching.items (rw c.as_slice.ensures.value at c.in_ok-names.ensures) c.in_ok-push_apart.ensures
