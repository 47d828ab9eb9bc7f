use Rattle.std.proofs.Common.{◌≡◌, ◌∙◌, ◌++◌, ◌∷◌, [], ap, sym, rules, tests}
use Rattle.ids_reader.specs.Sides.{alone}
use Rattle.ids_reader.proofs.SidesLemmas.{alone_more}
use Rattle.ids_reader.proofs.side.facets_in.Goals as goal

pub loop-requirement-init : goal.loop-requirement-init
unfolding alone
loop-requirement-init c = search (rules, tests)

pub loop-requirement-preserved : goal.loop-requirement-preserved
loop-requirement-preserved c =
    let l = c.loop-requirement in
    let f = c.in-Some.requirement.facet in
    let pushed : c.push.new.self.items ≡ l.facets.items ++ f ∷ [] = search (rules, tests) in
    pushed ∙ ap (λ fs. fs ++ f ∷ []) l.invariant ∙ sym (alone_more l.yielded c.in-Some.requirement)
