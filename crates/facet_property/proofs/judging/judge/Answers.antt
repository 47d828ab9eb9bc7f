use Rattle.std.proofs.Common.{◌∙◌}
use Rattle.facet_property.specs.Held.{all_of, property_of}
use Rattle.facet_property.proofs.Drawn.{judged_made}
use Rattle.facet_property.proofs.judging.judge.Goals as goal

pub returns : goal.returns
returns c =
    c.judged_by.ensures
    ∙ judged_made c.args.schema.now (property_of c.args.property.now) c.args.facet.now (all_of c.shape_values-values.result) c.has_value-has_value.result c.is_typed-is_typed.result c.in_ok-is_admitted.is_admitted
    (rw c.shape_of-shape.ensures at c.shape_values-values.ensures) c.has_value-has_value.ensures (rw c.shape_of-shape.ensures at c.is_typed-is_typed.ensures) c.in_ok-is_admitted.ensures
