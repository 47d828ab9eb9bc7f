use Rattle.std.proofs.Common.{◌∙◌, ap, if◌then◌else◌}
use Rattle.ifc_base.specs.KeyOrder.{key_eq}
use Rattle.inverse_index.specs.Index.{ids_at}
use Rattle.inverse_index.specs.Lists.{with_id}
use Rattle.inverse_index.proofs.Tests.{change_once}
use Rattle.inverse_index.proofs.index.add_to.Goals as goal

pub loop-key-preserved : goal.loop-key-preserved
loop-key-preserved c = λ k.
    change_once (with_id c.args.n) c.args.keys.now c.loop-key.key-index c.key-item.result c.loop-key-test.true c.key-item.is (ids_at c.args.lists.now) (ids_at c.loop-key.next) (ids_at c.in_ok-next-2.next) c.loop-key.invariant k
    (c.in_ok-next-2.ensures k ∙ ap (λ xs. if key_eq c.key-item.result k then xs else ids_at c.loop-key.next k) (c.in_ok-ids.ensures ∙ ap (with_id c.args.n) c.ids_in.ensures))
