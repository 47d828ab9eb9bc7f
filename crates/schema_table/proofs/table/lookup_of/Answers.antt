use Rattle.schema_table.proofs.Readying.{are_ready}
use Rattle.schema_table.proofs.table.lookup_of.Goals as goal

pub parents_first-requires-clause-few : goal.parents_first-requires-clause-few
parents_first-requires-clause-few c = (are_ready c.args.entities c.args.numbered.parents.items c.deref.result.now c.requires.faultless c.requires.parents c.deref.ensures.value).few

pub parents_first-requires-clause-within : goal.parents_first-requires-clause-within
parents_first-requires-clause-within c = (are_ready c.args.entities c.args.numbered.parents.items c.deref.result.now c.requires.faultless c.requires.parents c.deref.ensures.value).within

pub parents_first-requires-clause-ends : goal.parents_first-requires-clause-ends
parents_first-requires-clause-ends c = (are_ready c.args.entities c.args.numbered.parents.items c.deref.result.now c.requires.faultless c.requires.parents c.deref.ensures.value).ends
