use Rattle.std.proofs.Common.{◌≡◌, ◌++◌, take}
use Rattle.facet_property.specs.Held.{properties_of, texts_of, judged_all, valued_sets}
use Rattle.facet_property.proofs.weighing.judge_all.Given as goal

abbrev pub invariant-loop-p : goal.invariant-loop-p
invariant-loop-p l = record {
  judged : l.all ≡ judged_all l.schema l.facet (properties_of (take l.p-index l.properties));
  valued : texts_of l.valued.items ≡ texts_of l.initial.valued.items ++ valued_sets l.schema (properties_of (take l.p-index l.properties));
}
