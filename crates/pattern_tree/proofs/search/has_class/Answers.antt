use Rattle.std.proofs.Common.{◌≡◌, ◌∙◌, sym, true, rules}
use Rattle.pattern_tree.specs.declared.tree.Class.{Class}
use Rattle.pattern_tree.specs.contracts.tree.ClassPartialEq.TheImpl as derived
use Rattle.pattern_tree.proofs.Searches.{class_there}
use Rattle.pattern_tree.proofs.search.has_class.Goals as goal

alike : (a b : Class) → derived.ghosts.eq a b ≡ true → a ≡ b
alike a b e = grind rules

pub returns : goal.returns
returns c there d =
    class_there _ c.args.class c.args.classes.now d (λ k e. alike k c.args.class e) (sym c.contains.ensures.value ∙ there)
