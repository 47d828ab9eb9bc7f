use Rattle.std.proofs.Common.{◌≡◌, List, ◌++◌, map}
use Rattle.audit_model.specs.Machine.{Legal}
use Rattle.audit_run.specs.Holding.{AreTaken}
use Rattle.audit_run.specs.declared.hands.Taken.{Taken}
use Rattle.audit_run.specs.Runs.{return_of}
use Rattle.audit_run.proofs.calls.give_all_back.Given as goal

abbrev pub invariant-loop-taken : goal.invariant-loop-taken
invariant-loop-taken l = record {
  ground : l.core.ground ≡ l.fn.core.ground;
  legal : Legal l.core.ground l.core.history;
  taken : AreTaken l.core.ground l.core.history l.claims.items;
  returned : (done : List Taken) × ((l.fn.hands.claims ≡ l.claims.items ++ done) × (l.core.history ≡ map return_of done ++ l.fn.core.history));
}

abbrev pub decreases-loop-taken : goal.decreases-loop-taken
decreases-loop-taken l = goal.left-loop-taken l
