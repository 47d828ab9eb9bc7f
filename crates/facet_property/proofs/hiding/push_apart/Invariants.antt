use Rattle.std.proofs.Common.{◌≡◌, ◌++◌, not, take}
use Rattle.std.specs.List.{filter, list_any}
use Rattle.facet_property.specs.Held.{are_texts}
use Rattle.facet_property.proofs.hiding.push_apart.Given as goal

abbrev pub invariant-loop-p : goal.invariant-loop-p
invariant-loop-p l = l.reaching.items ≡ l.initial.reaching.items ++ filter (λ q. not (list_any (are_texts q.set.now q.name.now) l.names.keys)) (take l.p-index l.inherited)
