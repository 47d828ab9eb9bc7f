use Rattle.std.proofs.Common.{◌≡◌, ◌++◌, take}
use Rattle.std.specs.List.{flat_map}
use Rattle.audit_model.specs.Reading.{visit}
use Rattle.audit_model.specs.Paths.{set_path}
use Rattle.facet_paths.specs.WalkEnds.{held_by}
use Rattle.facet_paths.proofs.sets.push_all_held.Given as goal

abbrev pub invariant-loop-set : goal.invariant-loop-set
invariant-loop-set g l = record {
  ends : l.ends.items ≡ l.initial.ends.items ++ flat_map (held_by l.schema (g.L.Look.seen l.look)) (take l.set-index l.sets);
  reads : l.reads.items ≡ l.initial.reads.items ++ (visit (set_path l.schema) (take l.set-index l.sets)).keys (g.L.Look.seen l.look);
}
