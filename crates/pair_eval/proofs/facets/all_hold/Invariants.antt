-- of the facets so far: whether all hold, and their keys
use Rattle.std.proofs.Common.{◌≡◌, ◌++◌, take}
use Rattle.std.specs.List.{list_all}
use Rattle.closure_walk.specs.Walking.{SameKeys}
use Rattle.audit_model.specs.Reading.{visit}
use Rattle.audit_model.specs.Verdicts.{weigh}
use Rattle.pair_eval.proofs.facets.all_hold.Given as goal

abbrev pub invariant-loop-facet : goal.invariant-loop-facet
invariant-loop-facet g l = record {
  holds : l.all ≡ list_all (λ w. w.holds) ((visit (λ f. weigh l.schema f l.elem) (take l.facet-index l.facets)).answer (g.L.Look.seen l.look));
  reads : SameKeys l.reads (l.initial.reads ++ (visit (λ f. weigh l.schema f l.elem) (take l.facet-index l.facets)).keys (g.L.Look.seen l.look));
}
