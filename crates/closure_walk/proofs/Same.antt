-- Keys that the test finds the same are the same.
use Rattle.std.proofs.Common.{◌≡◌, true}
use Rattle.ifc_base.specs.declared.key.Key.{Key}
use Rattle.ifc_base.specs.KeyOrder.{key_eq, key_eq-Decides}

pub same_key-true : (k l : Key) → key_eq k l ≡ true → k ≡ l
same_key-true k l e = (key_eq-Decides k l).0 e
