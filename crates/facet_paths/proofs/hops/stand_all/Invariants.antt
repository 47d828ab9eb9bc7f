use Rattle.std.proofs.Common.{◌≡◌, [], ◌∷◌, ◌++◌, take}
use Rattle.std.specs.List.{flat_map}
use Rattle.ifc_base.specs.declared.key.Key.TheVariants.{Inst}
use Rattle.facet_paths.proofs.hops.stand_all.Given as goal

abbrev pub invariant-loop-id : goal.invariant-loop-id
invariant-loop-id l = l.reads.items ≡ l.initial.reads.items ++ flat_map (λ x. Inst x ∷ []) (take l.id-index l.ids)
