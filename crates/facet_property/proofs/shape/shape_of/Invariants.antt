use Rattle.std.proofs.Common.{◌≡◌, None, find, take}
use Rattle.schema_table.specs.Schema.{is_kind_of}
use Rattle.facet_property.specs.Shapes.{shape_entity}
use Rattle.facet_property.proofs.shape.shape_of.Given as goal

abbrev pub invariant-loop-shape : goal.invariant-loop-shape
invariant-loop-shape l = find (λ h. is_kind_of l.schema l.entity (shape_entity h)) (take l.shape-index l.shape-items) ≡ None
