use Rattle.model_gen.specs.Fixed.{declarations}
use Rattle.model_gen.proofs.inputs.made_declarations.Goals as goal

pub returns : goal.returns
unfolding declarations
returns c = c.bytes_of.ensures
