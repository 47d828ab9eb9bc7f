use Rattle.std.proofs.Common.{arith, ◌≡◌, ◌≤◌, ◌+◌, ◌*◌, ◌^◌, ◌%◌}
use Rattle.tree_map.proofs.Digits.{moved_up, start_is}
use Rattle.tree_map.proofs.tier.start.Goals as goal

pub overflow_add-result : goal.overflow_add-result
overflow_add-result c =
    let m = moved_up c.args.from c.args.digit c.args.bits c.requires.bits c.requires.digit c.requires.from in
    let same : c.args.digit * 2 ^ c.args.bits % 18446744073709551616 ≡ c.args.digit * 2 ^ c.args.bits = m.0 in
    let room : c.args.from + c.args.digit * 2 ^ c.args.bits + 2 ^ c.args.bits ≤ 2 ^ 40 = m.1 in
    omega arith

pub returns-clause-value : goal.returns-clause-value
returns-clause-value c = start_is c.args.from c.args.digit c.args.bits c.requires.bits c.requires.digit c.requires.from

pub returns-clause-room : goal.returns-clause-room
returns-clause-room c =
    let m = moved_up c.args.from c.args.digit c.args.bits c.requires.bits c.requires.digit c.requires.from in
    let same : c.args.digit * 2 ^ c.args.bits % 18446744073709551616 ≡ c.args.digit * 2 ^ c.args.bits = m.0 in
    let room : c.args.from + c.args.digit * 2 ^ c.args.bits + 2 ^ c.args.bits ≤ 2 ^ 40 = m.1 in
    omega arith
