-- the whole run is the marks made so far, and the run of the steps that are left
use Rattle.std.proofs.Common.{◌≡◌, false, [], length, take, drop}
use Rattle.std.specs.Prelude.{reverse}
use Rattle.pattern_tree.specs.Machine.{run, behind, wire}
use Rattle.pattern_tree.proofs.machine.pass.Given as goal

abbrev pub invariant-loop-at : goal.invariant-loop-at
invariant-loop-at l = record {
  size : length l.marks ≡ length l.fn.marks;
  whole : run l.hits l.ops l.fn.marks (wire l.fn.begins false) []
      ≡ behind (take l.at l.marks) (run l.hits (drop l.at l.ops) (drop l.at l.marks) l.wire (reverse l.kept.items));
}
