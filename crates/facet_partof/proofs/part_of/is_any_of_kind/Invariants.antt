use Rattle.std.proofs.Common.{◌≡◌, ◌++◌, take}
use Rattle.closure_walk.specs.Walking.{SameKeys}
use Rattle.audit_model.specs.Reading.{visit}
use Rattle.audit_model.specs.Relations.{part_of_kind}
use Rattle.audit_model.specs.Verdicts.{seen_for}
use Rattle.facet_partof.proofs.part_of.is_any_of_kind.Given as goal

abbrev pub invariant-loop-id : goal.invariant-loop-id
invariant-loop-id g l = record {
  found : l.found ≡ part_of_kind l.schema l.entity ((visit (seen_for l.schema l.entity.predefined) (take l.id-index l.ids)).answer (g.L.Look.seen l.look));
  reads : SameKeys l.reads.items (l.initial.reads.items ++ (visit (seen_for l.schema l.entity.predefined) (take l.id-index l.ids)).keys (g.L.Look.seen l.look));
}
