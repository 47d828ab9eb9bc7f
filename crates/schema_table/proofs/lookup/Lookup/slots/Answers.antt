use Rattle.std.proofs.Common.{◌∙◌, ap}
use Rattle.schema_table.specs.Schema.{Schema, attributes}
use Rattle.schema_table.specs.Climbing.{place}
use Rattle.schema_table.proofs.Lookups.{slots_by_number}
use Rattle.schema_table.proofs.lookup.Lookup.slots.Goals as goal

pub returns : goal.returns
returns c =
    c.slots_at.ensures
    ∙ slots_by_number c.self.inside.entities c.self.inside.attributes.lists.items c.self.inside.attributes.shares.items c.self.invariant.attributes_are c.args.entity.now c.args.number
    (ap (λ (s : Schema). place s c.args.entity.now) c.self.view_is ∙ c.requires)
    ∙ ap (λ (s : Schema). attributes s c.args.entity.now) c.self.view_is
