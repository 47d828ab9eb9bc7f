use Rattle.std.proofs.Common.{ap₂, ◌≡◌, ◌∙◌, ◌||◌, false, ap, Bool, true, refl}
use Rattle.std.proofs.lemmas.Result.{IfOk-weaker}
use Rattle.clap.specs.Words.{app_of, with_rule}
use Rattle.command_line.specs.Words.{with_inputs}
use Rattle.command_line.proofs.command.with_inputs.Goals as goal

pub returns-clause-app : goal.returns-clause-app
unfolding with_inputs
returns-clause-app c =
    let one = c.in_ok-arg.ensures.shape c.input.ensures.local in
    let two = c.in_ok-arg-2.ensures.shape c.input-2.ensures.local ∙ ap₂ with_rule (one ∙ ap (with_rule (app_of c.args.command)) c.input.ensures.rule) c.input-2.ensures.rule in
    let three = c.in_ok-arg-3.ensures.shape c.input-3.ensures.local ∙ ap₂ with_rule two c.input-3.ensures.rule in
    IfOk-weaker c.arg-4.result _ _ (λ m h. h.shape c.input-4.ensures.local ∙ ap₂ with_rule three c.input-4.ensures.rule) c.arg-4.ensures

or_false : (a b : Bool) → b ≡ false → (a || b) ≡ a
or_false true b h = refl
or_false false b h = h

pub returns-clause-local : goal.returns-clause-local
returns-clause-local c =
    let one = c.in_ok-arg.ensures.globals ∙ or_false _ _ c.input.ensures.local in
    let two = c.in_ok-arg-2.ensures.globals ∙ or_false _ _ c.input-2.ensures.local ∙ one in
    let three = c.in_ok-arg-3.ensures.globals ∙ or_false _ _ c.input-3.ensures.local ∙ two in
    IfOk-weaker c.arg-4.result _ _ (λ m h. h.globals ∙ or_false _ _ c.input-4.ensures.local ∙ three) c.arg-4.ensures
