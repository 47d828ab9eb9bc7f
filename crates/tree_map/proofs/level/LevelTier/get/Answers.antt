use Rattle.std.proofs.Common.{◌-◌, ◌∙◌, ap, arith}
use Rattle.std.specs.Option.{option_copied}
use Rattle.tree_map.proofs.Levels.{get_found, get_missing, whole_found}
use Rattle.tree_map.proofs.level.LevelTier.get.Goals as goal

pub returns-in_err-below_digit : goal.returns-in_err-below_digit
returns-in_err-below_digit g c =
    ap option_copied c.from_residual.ensures
    ∙ get_missing g.B.Tier.width g.B.Tier.pairs g.B.Tier.IsWhole g.met.B.Tier.ordered (c.args.bits - 5) c.args.key c.split-digit.result.0 c.split-digit.result.1 (omega arith) c.split-digit.ensures.parts c.split-digit.ensures.rest
    c.args.self.now.branches.items c.deref.result.now c.requires.whole c.deref.ensures.value c.in_err-below_digit.ensures

pub get-requires-clause-whole : goal.get-requires-clause-whole
get-requires-clause-whole g c = whole_found g.B.Tier.width g.B.Tier.pairs g.B.Tier.IsWhole g.met.B.Tier.ordered c.split-digit.result.0 c.args.self.now.branches.items c.deref.result.now c.in_ok-below_digit.field-0.now c.requires.whole c.deref.ensures.value c.in_ok-below_digit.ensures

pub returns : goal.returns
returns g c =
    c.get.ensures
    ∙ get_found g.B.Tier.width g.B.Tier.pairs g.B.Tier.IsWhole g.met.B.Tier.ordered (c.args.bits - 5) c.args.key c.split-digit.result.0 c.split-digit.result.1 (omega arith) c.split-digit.ensures.parts c.split-digit.ensures.rest
    c.args.self.now.branches.items c.deref.result.now c.requires.whole c.deref.ensures.value c.in_ok-below_digit.field-0.now c.in_ok-below_digit.ensures
