use Rattle.std.proofs.Common.{rules, ◌≡◌, ◌∙◌, ◌++◌, [], ◌∷◌, ◌<◌, ◌^◌, sym, subst, arith}
use Rattle.tree_map.specs.Pairs.{AreBelow}
use Rattle.model_view.proofs.TreeModels.{below_more, beside_more}
use Rattle.model_view.proofs.indexed.beside_ids.Goals as goal

pub loop-instance-preserved : goal.loop-instance-preserved
loop-instance-preserved c =
    let e : c.push.new.self.items ≡ c.loop-instance.pairs.items ++ (c.get.result, c.in-Some.instance) ∷ [] = search rules in
    let high : c.get.result < 2 ^ 31 = c.get.ensures.high in
    record {
      value = e ∙ beside_more c.loop-instance.pairs.items c.loop-instance.yielded c.get.result c.in-Some.instance c.loop-instance.invariant.value c.get.ensures.value;
      keys = subst (AreBelow (2 ^ 40)) (sym e) (below_more (2 ^ 40) c.loop-instance.pairs.items c.get.result c.in-Some.instance c.loop-instance.invariant.keys (omega (arith, high)));
    }
