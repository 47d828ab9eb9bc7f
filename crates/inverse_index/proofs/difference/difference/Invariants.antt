use Rattle.std.proofs.Common.{◌≡◌, ◌&&◌, ◌||◌, not, take}
use Rattle.std.specs.BTreeSet.{contains}
use Rattle.ifc_base.specs.declared.key.Key.{Key}
use Rattle.ifc_base.specs.KeyOrder.{key_cmp}
use Rattle.inverse_index.specs.Index.{has_key}
use Rattle.inverse_index.proofs.difference.difference.Given as goal

abbrev pub invariant-loop-key : goal.invariant-loop-key
invariant-loop-key l = record {
  seen : (k : Key) → contains key_cmp l.seen k ≡ (has_key l.others k || has_key (take l.key-index l.keys) k);
  left : (k : Key) → has_key l.left.items k ≡ (has_key (take l.key-index l.keys) k && not (has_key l.others k));
}
