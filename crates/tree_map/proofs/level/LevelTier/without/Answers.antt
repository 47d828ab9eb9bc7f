use Rattle.std.proofs.Common.{◌-◌, ◌∙◌, sym, arith}
use Rattle.std.proofs.lemmas.Bool.{true≢false}
use Rattle.std.specs.Arc.{arc_value}
use Rattle.tree_map.proofs.Levels.{whole_found, same_level, cut_level, without_level}
use Rattle.tree_map.proofs.level.LevelTier.without.Goals as goal

pub returns-in_default-clause-pairs : goal.returns-in_default-clause-pairs
returns-in_default-clause-pairs g c =
    (same_level g.B.Tier.width g.B.Tier.pairs g.B.Tier.IsWhole g.met.B.Tier.ordered (c.args.bits - 5) c.args.key c.split-digit.result.0 c.split-digit.result.1 (omega arith) c.split-digit.ensures.parts c.split-digit.ensures.rest
    c.args.self.now.branches.items c.in_ok-branches.branches.items c.deref-2.result.now c.requires.whole (c.in_ok-branches.ensures ∙ c.deref.ensures.value) c.deref-2.ensures.value c.in_default.ensures).1

pub without-requires-clause-whole : goal.without-requires-clause-whole
without-requires-clause-whole g c = whole_found g.B.Tier.width g.B.Tier.pairs g.B.Tier.IsWhole g.met.B.Tier.ordered c.split-digit.result.0 c.args.self.now.branches.items c.deref-2.result.now c.in-Some.below.now c.requires.whole c.deref-2.ensures.value c.in-Some.ensures

pub returns-then-is_empty-clause-whole : goal.returns-then-is_empty-clause-whole
returns-then-is_empty-clause-whole g c =
    (cut_level g.B.Tier.width g.B.Tier.pairs g.B.Tier.IsWhole g.met.B.Tier.ordered (c.args.bits - 5) c.args.key c.split-digit.result.0 c.split-digit.result.1 c.in-Some.below.now c.in_ok-left.left (omega arith) c.split-digit.ensures.parts c.split-digit.ensures.rest
    c.args.self.now.branches.items c.in_ok-branches.branches.items c.cut_branch.new.node.items c.deref-2.result.now c.requires.whole (c.is_empty.ensures.0 c.if-is_empty.true) (c.in_ok-branches.ensures ∙ c.deref.ensures.value) c.cut_branch.ensures c.deref-2.ensures.value c.in-Some.ensures c.in_ok-left.ensures.pairs).0

pub returns-then-is_empty-clause-pairs : goal.returns-then-is_empty-clause-pairs
returns-then-is_empty-clause-pairs g c =
    (cut_level g.B.Tier.width g.B.Tier.pairs g.B.Tier.IsWhole g.met.B.Tier.ordered (c.args.bits - 5) c.args.key c.split-digit.result.0 c.split-digit.result.1 c.in-Some.below.now c.in_ok-left.left (omega arith) c.split-digit.ensures.parts c.split-digit.ensures.rest
    c.args.self.now.branches.items c.in_ok-branches.branches.items c.cut_branch.new.node.items c.deref-2.result.now c.requires.whole (c.is_empty.ensures.0 c.if-is_empty.true) (c.in_ok-branches.ensures ∙ c.deref.ensures.value) c.cut_branch.ensures c.deref-2.ensures.value c.in-Some.ensures c.in_ok-left.ensures.pairs).1

pub returns-clause-whole : goal.returns-clause-whole
returns-clause-whole g c =
    (without_level g.B.Tier.width g.B.Tier.pairs g.B.Tier.IsWhole g.met.B.Tier.ordered (c.args.bits - 5) c.args.key c.split-digit.result.0 c.split-digit.result.1 c.in-Some.below.now c.in_ok-left.left (arc_value c.in_ok-held.held) (omega arith) c.split-digit.ensures.parts c.split-digit.ensures.rest
    c.args.self.now.branches.items c.in_ok-branches.branches.items c.set_branch.new.node.items c.deref-2.result.now c.split-digit.ensures.digit c.requires.whole c.in_ok-left.ensures.whole (λ e. true≢false (sym (c.is_empty.ensures.1 e) ∙ c.if-is_empty.false)) (c.in_ok-branches.ensures ∙ c.deref.ensures.value) c.in_ok-held.ensures.ok c.set_branch.ensures c.deref-2.ensures.value c.in-Some.ensures c.in_ok-left.ensures.pairs).0

pub returns-clause-pairs : goal.returns-clause-pairs
returns-clause-pairs g c =
    (without_level g.B.Tier.width g.B.Tier.pairs g.B.Tier.IsWhole g.met.B.Tier.ordered (c.args.bits - 5) c.args.key c.split-digit.result.0 c.split-digit.result.1 c.in-Some.below.now c.in_ok-left.left (arc_value c.in_ok-held.held) (omega arith) c.split-digit.ensures.parts c.split-digit.ensures.rest
    c.args.self.now.branches.items c.in_ok-branches.branches.items c.set_branch.new.node.items c.deref-2.result.now c.split-digit.ensures.digit c.requires.whole c.in_ok-left.ensures.whole (λ e. true≢false (sym (c.is_empty.ensures.1 e) ∙ c.if-is_empty.false)) (c.in_ok-branches.ensures ∙ c.deref.ensures.value) c.in_ok-held.ensures.ok c.set_branch.ensures c.deref-2.ensures.value c.in-Some.ensures c.in_ok-left.ensures.pairs).1
