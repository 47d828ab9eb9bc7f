use Rattle.std.proofs.Common.{◌≡◌, true, take}
use Rattle.std.specs.Borrow.{Bor}
use Rattle.std.specs.Prelude.{ℕ, List}
use Rattle.std.specs.List.{list_all, list_any}
use Rattle.facet_property.specs.Held.{is_text}
use Rattle.facet_property.proofs.hiding.has_all.Given as goal

abbrev pub invariant-loop-name : goal.invariant-loop-name
invariant-loop-name l = list_all (λ (n : Bor (List ℕ)). list_any (is_text n.now) l.texts.keys) (take l.name-index l.names) ≡ true
