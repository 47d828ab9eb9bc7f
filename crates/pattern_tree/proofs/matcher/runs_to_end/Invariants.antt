-- the characters so far were taken
use Rattle.std.proofs.Common.{◌≡◌, length, fold, vec_len}
use Rattle.pattern_tree.specs.Searching.{found_in}
use Rattle.pattern_tree.specs.Machine.{reached_of, taken, begun}
use Rattle.pattern_tree.proofs.matcher.runs_to_end.Given as goal

abbrev pub invariant-loop-c : goal.invariant-loop-c
invariant-loop-c l = record {
  size : vec_len l.progress.marks ≡ length l.ops;
  reached : reached_of l.progress ≡ fold (taken (found_in l.searches.items) l.ops) (begun l.part) l.yielded;
}
