use Rattle.std.proofs.Common.{◌≡◌, take}
use Rattle.std.specs.BTreeSet.{contains}
use Rattle.ifc_base.specs.declared.key.Key.{Key}
use Rattle.ifc_base.specs.KeyOrder.{key_cmp}
use Rattle.inverse_index.specs.Index.{has_key}
use Rattle.inverse_index.proofs.difference.set_of.Given as goal

abbrev pub invariant-loop-key : goal.invariant-loop-key
invariant-loop-key l = (k : Key) → contains key_cmp l.set k ≡ has_key (take l.key-index l.keys) k
