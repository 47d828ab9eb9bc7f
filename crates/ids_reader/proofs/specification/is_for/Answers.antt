use Rattle.std.proofs.Common.{◌∙◌, ap}
use Rattle.std.specs.List.{list_any}
use Rattle.serde_json.specs.View.{view}
use Rattle.ids_reader.specs.Specifications.{is_for, says_schema}
use Rattle.ids_reader.proofs.MembersLemmas.{list_any_map}
use Rattle.ids_reader.proofs.specification.is_for.Goals as goal

pub returns : goal.returns
unfolding is_for
returns c =
    c.names_schema.ensures ∙ list_any_map (says_schema c.args.schema_id.now) view c.items_at.result.now ∙ ap (list_any (says_schema c.args.schema_id.now)) c.items_at.ensures
