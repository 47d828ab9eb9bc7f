use Rattle.model_gen.specs.Fixed.{specifications}
use Rattle.model_gen.proofs.inputs.made_specs.Goals as goal

pub returns : goal.returns
unfolding specifications
returns c = c.bytes_of.ensures
