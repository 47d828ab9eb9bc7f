use Rattle.std.proofs.Common.{◌≡◌, ◌-◌, ◌∙◌, sym, arith}
use Rattle.std.specs.List.{slice_get}
use Rattle.std.specs.Option.{option_copied}
use Rattle.std.proofs.lemmas.Grind.{common_steps}
use Rattle.std.proofs.lemmas.Option.{gets}
use Rattle.pair_eval.proofs.Places.{none_below, numbered_at}
use Rattle.pair_eval.proofs.assessing.specification.Goals as goal

pub returns-then-number-eq0 : goal.returns-then-number-eq0
returns-then-number-eq0 c = sym (none_below 1 c.args.number c.args.specs.now c.requires.numbered (omega (arith, c.if-number-eq0.true)))

pub returns : goal.returns
returns c =
    let at : option_copied c.get.result ≡ slice_get c.args.specs.now (c.args.number - 1) = grind (arith, common_steps, gets) in
    at ∙ sym (numbered_at 1 (c.args.number - 1) c.args.number c.args.specs.now c.requires.numbered (omega (arith, c.if-number-eq0.false)))
