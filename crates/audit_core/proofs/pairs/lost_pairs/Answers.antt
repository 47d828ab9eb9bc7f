use Rattle.std.proofs.Common.{◌≡◌, ◌<◌, length, get_or}
use Rattle.audit_core.proofs.First.{keys_next}
use Rattle.audit_core.proofs.pairs.lost_pairs.Goals as goal

pub loop-key-preserved : goal.loop-key-preserved
loop-key-preserved c =
    let within : c.loop-key.key-index < length c.args.keys.now = rw (← c.as_slice-key-items.ensures) c.loop-key-test.true in
    let item : c.key-item.result ≡ get_or c.args.keys.now c.loop-key.key-index c.key-item.result = rw (← c.as_slice-key-items.ensures) c.key-item.is in
    rw (c.in_ok-add_lost_by.ensures, c.loop-key.invariant, keys_next c.args.specs.now c.args.from.now.model c.args.to.now.model c.args.keys.now c.loop-key.key-index c.key-item.result within item)
