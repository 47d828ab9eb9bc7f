use Rattle.std.proofs.Common.{◌≡◌, ◌||◌, List, subst}
use Rattle.std.specs.List.{list_any}
use Rattle.pattern_tree.specs.declared.tree.Class.{Class}
use Rattle.pattern_tree.specs.Trees.{is_of_class}
use Rattle.pattern_tree.specs.declared.range.Range.{Range}
use Rattle.pattern_tree.proofs.Searches.{range_pushed, class_pushed, class_known}
use Rattle.pattern_tree.proofs.search.push_part.Goals as goal

pub returns-in_ok-push-in-Range : goal.returns-in_ok-push-in-Range
returns-in_ok-push-in-Range c d =
    let range : Range = record { first = c.in-Range.first; last = c.in-Range.last } in
    range_pushed c.args.ranges.now.items c.push.new.self.items c.args.classes.now.items range c.args.part d c.in_ok-push-in-Range.ensures.items c.in-Range.is

pub returns-in_ok-push-in-Class : goal.returns-in_ok-push-in-Class
returns-in_ok-push-in-Class c d =
    class_pushed c.args.ranges.now.items c.args.classes.now.items c.push-then-not-has_class.new.self.items c.in-Class.class c.args.part d c.in_ok-push-in-Class.ensures.items c.in-Class.is

pub returns-else-not-has_class : goal.returns-else-not-has_class
returns-else-not-has_class c d =
    let same = subst (λ (l : List Class). list_any (λ k. is_of_class k d) l ≡ (list_any (λ k. is_of_class k d) l || is_of_class c.in-Class.class d))
    c.as_slice.ensures.value (c.has_class.ensures c.if-not-has_class.false d) in
    class_known c.args.ranges.now.items c.args.classes.now.items c.in-Class.class c.args.part d same c.in-Class.is
