use Rattle.model_view.proofs.Doing.{keeps_others}
use Rattle.model_view.proofs.snapshot.Snapshot.with_edits.Goals as goal

pub changed_keys-requires : goal.changed_keys-requires
changed_keys-requires c = keeps_others c.args.schema.now c.self.inside.content.model c.in_ok-content.content.model c.as_slice.result.now c.as_slice-2.result.now c.args.edits.now c.in_ok-content.ensures.model c.as_slice.ensures c.as_slice-2.ensures
