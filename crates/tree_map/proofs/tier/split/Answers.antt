use Rattle.std.proofs.Common.{arith, ◌<◌, ◌^◌, ◌/◌}
use Rattle.tree_map.proofs.Digits.{digit_below, parts, rest_below}
use Rattle.tree_map.proofs.tier.split.Goals as goal

pub overflow_cast-result-2 : goal.overflow_cast-result-2
overflow_cast-result-2 c = let small : c.args.key / 2 ^ c.args.bits < 32 = digit_below c.args.key c.args.bits c.requires.key in omega arith

pub returns-clause-parts : goal.returns-clause-parts
returns-clause-parts c = parts c.args.key c.args.bits c.requires.bits

pub returns-clause-digit : goal.returns-clause-digit
returns-clause-digit c = digit_below c.args.key c.args.bits c.requires.key

pub returns-clause-rest : goal.returns-clause-rest
returns-clause-rest c = rest_below c.args.key c.args.bits c.requires.bits
