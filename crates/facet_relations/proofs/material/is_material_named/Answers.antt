use Rattle.std.specs.Str.{chars}
use Rattle.facet_relations.proofs.Whole.{last_of}
use Rattle.facet_relations.proofs.material.is_material_named.Goals as goal

pub returns : goal.returns
unfolding chars
returns c = last_of c.in_ok-text_admitted.field-0 c.in_ok-text_admitted-2.field-0 c.in_ok-b.b _ _ _ c.in_ok-text_admitted.ensures c.if-branch.false c.in_ok-text_admitted-2.ensures c.if-branch-2.false c.in_ok-b.ensures
