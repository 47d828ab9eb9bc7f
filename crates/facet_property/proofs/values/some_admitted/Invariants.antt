use Rattle.std.proofs.Common.{◌≡◌, false, ◌&&◌, take}
use Rattle.std.specs.List.{list_any}
use Rattle.schema_table.specs.Values.{is_set}
use Rattle.restrictions.specs.Admitting.{admits}
use Rattle.facet_property.proofs.values.some_admitted.Given as goal

abbrev pub invariant-loop-value : goal.invariant-loop-value
invariant-loop-value l = list_any (λ v. is_set v && admits l.condition v) (take l.value-index l.values) ≡ false
