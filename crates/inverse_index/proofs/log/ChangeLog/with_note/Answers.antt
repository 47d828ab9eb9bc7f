use Rattle.std.proofs.Common.{take}
use Rattle.ifc_base.specs.KeyOrder.{key_eq}
use Rattle.inverse_index.specs.Index.{has_key}
use Rattle.inverse_index.specs.Log.{last_in}
use Rattle.inverse_index.proofs.Tests.{any_more, one_more}
use Rattle.inverse_index.proofs.log.ChangeLog.with_note.Goals as goal

pub loop-key-preserved : goal.loop-key-preserved
loop-key-preserved c = λ k.
    rw (any_more (λ j. key_eq j k) c.as_slice-key-items.result.now c.loop-key.key-index c.key-item.result c.loop-key-test.true c.key-item.is, c.in_ok-next.ensures k, c.loop-key.invariant k)
    (one_more (has_key (take c.loop-key.key-index c.as_slice-key-items.result.now) k) (key_eq c.key-item.result k) c.args.revision (last_in c.args.self.now k))
