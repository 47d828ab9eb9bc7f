use Rattle.std.proofs.Common.{◌≡◌, ◌++◌, map, take}
use Rattle.ifc_base.specs.declared.key.Key.TheVariants.{Refs}
use Rattle.inverse_index.proofs.standing.push_refs.Given as goal

abbrev pub invariant-loop-id : goal.invariant-loop-id
invariant-loop-id l = l.keys.items ≡ l.initial.keys.items ++ map (λ i. Refs i l.role) (take l.id-index l.ids)
