use Rattle.xsd_pattern.proofs.ClassLaws.{class_shortens}
use Rattle.xsd_pattern.proofs.TurnLaws.{sides_shorten}
use Rattle.xsd_pattern.proofs.laws.turns_shorten.Goals as goal

pub returns-clause-class : goal.returns-clause-class
returns-clause-class c = class_shortens

pub returns-clause-sides : goal.returns-clause-sides
returns-clause-sides c = sides_shorten
