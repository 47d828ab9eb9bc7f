use Rattle.std.proofs.Common.{◌∙◌, ap}
use Rattle.std.specs.Str.{chars}
use Rattle.schema_table.specs.Climbing.{place}
use Rattle.schema_table.specs.Schema.{Schema}
use Rattle.schema_table.proofs.Checking.{index_text}
use Rattle.schema_table.proofs.lookup.Lookup.number_named.Goals as goal

pub returns : goal.returns
returns c = c.number_of.ensures ∙ index_text c.self.inside.entities c.self.inside.index c.self.invariant.index_is c.args.name.now c.utf8.name ∙ ap (λ (s : Schema). place s (chars c.args.name.now)) c.self.view_is
