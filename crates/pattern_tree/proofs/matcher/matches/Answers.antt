use Rattle.std.proofs.Common.{◌++◌, ◌∙◌, ap}
use Rattle.std.specs.Prelude.{chars}
use Rattle.pattern_tree.specs.Trees.{values, sets_of}
use Rattle.pattern_tree.proofs.Telling.{told}
use Rattle.pattern_tree.proofs.matcher.matches.Goals as goal

pub returns : goal.returns
returns c =
    told c.args.tree.now (chars c.args.text.now) c.in_ok-part.part _ (values c.as_slice.result.now) c.runs_to_end.result c.in_ok-part.ensures
    (ap values c.as_slice.ensures.value ∙ c.in_ok-push_sets.ensures ∙ ap (λ l. values l ++ sets_of c.args.tree.now) c.new-sets.ensures.items)
    c.runs_to_end.ensures
