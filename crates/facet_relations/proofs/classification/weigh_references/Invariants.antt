use Rattle.std.proofs.Common.{◌≡◌, ◌++◌, take}
use Rattle.closure_walk.specs.Walking.{SameKeys}
use Rattle.audit_model.specs.Reading.{visit}
use Rattle.audit_model.specs.Paths.{source_path}
use Rattle.facet_relations.specs.Held.{references_weighed}
use Rattle.facet_relations.proofs.classification.weigh_references.Given as goal

abbrev pub invariant-loop-id : goal.invariant-loop-id
invariant-loop-id g l = record {
  all : l.all ≡ references_weighed l.schema l.facet ((visit (source_path l.schema) (take l.id-index l.ids)).answer (g.L.Look.seen l.look));
  reads : SameKeys l.reads.items (l.initial.reads.items ++ (visit (source_path l.schema) (take l.id-index l.ids)).keys (g.L.Look.seen l.look));
}
