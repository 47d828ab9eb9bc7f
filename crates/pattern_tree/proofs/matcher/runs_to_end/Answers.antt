use Rattle.std.proofs.Common.{◌∙◌}
use Rattle.std.proofs.lemmas.Iterator.{YieldsList-from_chars}
use Rattle.std.proofs.lemmas.Iterator.Consumers.{YieldsList-end}
use Rattle.pattern_tree.specs.Trees.{values, hits_in}
use Rattle.pattern_tree.specs.Searching.{found_in}
use Rattle.pattern_tree.specs.Machine.{reached_of, begun}
use Rattle.pattern_tree.proofs.Searches.{fold_alike}
use Rattle.pattern_tree.proofs.Telling.{ended}
use Rattle.pattern_tree.proofs.matcher.runs_to_end.Goals as goal

pub returns : goal.returns
returns c =
    let all = YieldsList-end (YieldsList-from_chars c.args.text.now c.utf8.text cc) c.loop-c.yielded _ c.loop-c.yielded_by _ _ c.in-None.is c.next.ensures.steps in
    let alike = fold_alike (found_in c.in_ok-searches.searches.items) (hits_in (values c.args.sets.now)) c.as_slice-ops.result.now (begun c.args.part.now) c.loop-c.yielded c.in_ok-searches.ensures.same in
    ended (values c.args.sets.now) c.args.part.now c.as_slice-ops.result.now (reached_of c.loop-c.progress) c.loop-c.yielded _ c.as_slice-ops.ensures (c.loop-c.invariant.reached ∙ alike) all.0
