use Rattle.std.proofs.Common.{◌∙◌}
use Rattle.serde_json.specs.View.{view}
use Rattle.ids_reader.specs.Conditions.{within, kind_is_small, is_small}
use Rattle.ids_reader.specs.Tables.{table}
use Rattle.ids_reader.proofs.MembersLemmas.{all_rows}
use Rattle.ids_reader.proofs.condition.is_small.Goals as goal

pub returns : goal.returns
unfolding is_small
returns c =
    c.all_are_small.ensures ∙ all_rows (within kind_is_small (view c.args.value.now)) c.table.result.now (table c.args.object) c.table.ensures
