use Rattle.std.proofs.Common.{◌≡◌, take, flat_map}
use Rattle.ifc_base.specs.Refs.{refs_of}
use Rattle.inverse_index.proofs.standing.references.Given as goal

abbrev pub invariant-loop-value : goal.invariant-loop-value
invariant-loop-value l = l.ids.items ≡ flat_map refs_of (take l.value-index l.value-items)
