use Rattle.std.proofs.Common.{◌≡◌, ◌∙◌, ap, sym, Some, ◌++◌, ◌∷◌, [], ℕ, List}
use Rattle.schema_table.specs.Climbing.{lift}
use Rattle.schema_table.proofs.Chains.{lift-zero, chain-zero}
use Rattle.schema_table.proofs.Ordering.{chain_more, lift_more}
use Rattle.schema_table.proofs.order.line_down.Goals as goal

pub loop-step-init : goal.loop-step-init
loop-step-init c = (c.new-line.ensures.items ∙ sym (chain-zero c.args.parents.now (Some c.args.from)), sym (lift-zero c.args.parents.now (Some c.args.from)))

pub loop-step-preserved : goal.loop-step-preserved
loop-step-preserved c =
    let here : lift c.args.parents.now c.loop-step._step (Some c.args.from) ≡ Some c.in-Some.number = sym c.loop-step.invariant.1 ∙ c.in-Some.is in (
      c.in_ok-push-in-Some.ensures.items ∙ ap (λ (l : List ℕ). l ++ c.in-Some.number ∷ []) c.loop-step.invariant.0 ∙ sym (chain_more c.args.parents.now c.loop-step._step c.in-Some.number (Some c.args.from) here),
      c.step-at.ensures ∙ sym (lift_more c.args.parents.now c.loop-step._step c.in-Some.number (Some c.args.from) here),
    )
