-- of the requirements so far: the numbers of those that aren't met, and their keys
use Rattle.std.proofs.Common.{◌≡◌, ◌++◌, take}
use Rattle.closure_walk.specs.Walking.{SameKeys}
use Rattle.audit_model.specs.Reading.{visit}
use Rattle.audit_model.specs.Verdicts.{numbers_of_false, requirement_met}
use Rattle.pair_eval.proofs.requirements.unmet.Given as goal

abbrev pub invariant-loop-at : goal.invariant-loop-at
invariant-loop-at g l = record {
  numbers : l.numbers ≡ numbers_of_false 1 ((visit (requirement_met l.schema l.elem) (take l.at l.requirements)).answer (g.L.Look.seen l.look));
  reads : SameKeys l.reads (l.initial.reads ++ (visit (requirement_met l.schema l.elem) (take l.at l.requirements)).keys (g.L.Look.seen l.look));
}
