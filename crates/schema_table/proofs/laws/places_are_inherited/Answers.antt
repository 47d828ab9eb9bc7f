use Rattle.schema_table.proofs.LawProofs.{places_are_inherited}
use Rattle.schema_table.proofs.laws.places_are_inherited.Goals as goal

pub returns : goal.returns
returns c = places_are_inherited
