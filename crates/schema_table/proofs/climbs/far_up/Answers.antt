use Rattle.std.proofs.Common.{◌∙◌, sym, ap, map, List, Option, ℕ}
use Rattle.std.specs.Option.{option_and_then}
use Rattle.schema_table.specs.Climbing.{step}
use Rattle.schema_table.proofs.Doubling.{lifts-one, doubled}
use Rattle.schema_table.proofs.climbs.far_up.Goals as goal

pub loop-round-init : goal.loop-round-init
loop-round-init c = c.in_ok-far.ensures ∙ sym (lifts-one c.args.parents.now)

pub loop-round-preserved : goal.loop-round-preserved
loop-round-preserved c = doubled c.args.parents.now c.loop-round._round c.loop-round.far.items c.in_ok-far-2.far.items c.loop-round.invariant
    (c.in_ok-far-2.ensures ∙ ap (λ (l : List (Option ℕ)). map (λ o. option_and_then (step l) o) l) c.deref.ensures.value)
