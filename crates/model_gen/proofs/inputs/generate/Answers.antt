use Rattle.model_gen.specs.Made.{made_inputs}
use Rattle.model_gen.proofs.inputs.generate.Goals as goal

pub returns : goal.returns
unfolding made_inputs
returns c = λ i. record {
  declarations = c.in_ok-made_declarations.ensures i;
  specs = c.in_ok-made_specs.ensures i;
  model = c.in_ok-made_model.ensures i;
  script = c.in_ok-made_script.ensures i;
}
