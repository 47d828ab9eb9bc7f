use Rattle.std.proofs.Common.{◌≡◌, ◌∙◌, ◌+◌, ◌++◌, ◌∷◌, [], map, drop, Ok, Err, ap, sym, arith, rules, tests}
use Rattle.serde_json.specs.View.{view}
use Rattle.ids_reader.specs.Sides.{facet_at, facets_from, closed_after}
use Rattle.ids_reader.proofs.ReadsLemmas.{behind}
use Rattle.ids_reader.proofs.SidesLemmas.{turn_ok, turn_err, at_end}
use Rattle.ids_reader.proofs.side.facets_of.Goals as goal

pub returns-in-Err-Fault : goal.returns-in-Err-Fault
returns-in-Err-Fault c =
    let l = c.loop-item in
    let a = c.args in
    let fault : facet_at a.schema.now a.setting l.place l.closed (view c.item-item.result) ≡ Err c.in-Err-Fault.fault = search (rules, tests) in
    l.invariant.1 ∙ turn_err a.schema.now a.setting l.found.items l.place l.closed a.items.now l.item-index c.item-item.result c.in-Err-Fault.fault (omega arith) c.item-item.is fault

pub loop-item-preserved : goal.loop-item-preserved
loop-item-preserved c =
    let l = c.loop-item in
    let a = c.args in
    let r = c.in-Ok.requirement in
    let rest = drop (l.item-index + 1) (map view a.items.now) in
    let closed = closed_after a.setting.side l.closed r.facet in
    let read : facet_at a.schema.now a.setting l.place l.closed (view c.item-item.result) ≡ Ok r = search (rules, tests) in
    let pushed : c.push.new.self.items ≡ l.found.items ++ r ∷ [] = search (rules, tests) in
    let now : c.closed_after-closed.result ≡ closed = search (rules, tests) in (
      omega arith,
      l.invariant.1
          ∙ turn_ok a.schema.now a.setting l.found.items l.place l.closed a.items.now l.item-index c.item-item.result r (omega arith) c.item-item.is read
          ∙ ap (λ fs. behind fs (facets_from a.schema.now a.setting (l.place + 1) closed rest)) (sym pushed)
          ∙ ap (λ b. behind c.push.new.self.items (facets_from a.schema.now a.setting (l.place + 1) b rest)) (sym now),
    )

pub returns : goal.returns
returns c =
    let l = c.loop-item in
    let a = c.args in
    l.invariant.1 ∙ at_end a.schema.now a.setting l.found.items l.place l.closed a.items.now l.item-index (omega arith) ∙ ap Ok (sym c.from_vec.ensures)
