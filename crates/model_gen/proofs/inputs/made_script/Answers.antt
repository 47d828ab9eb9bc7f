use Rattle.model_gen.specs.Fixed.{script}
use Rattle.model_gen.proofs.inputs.made_script.Goals as goal

pub returns : goal.returns
unfolding script
returns c = c.bytes_of.ensures
