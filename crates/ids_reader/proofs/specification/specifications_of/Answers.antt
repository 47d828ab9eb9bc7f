use Rattle.std.proofs.Common.{◌≡◌, ◌∙◌, ◌+◌, ◌++◌, ◌∷◌, [], map, drop, Ok, Err, ap, sym, arith, rules, tests}
use Rattle.serde_json.specs.View.{view}
use Rattle.ids_reader.specs.Specifications.{specification_of, specifications_from}
use Rattle.ids_reader.proofs.ReadsLemmas.{behind}
use Rattle.ids_reader.proofs.SpecificationsLemmas.{turn_ok, turn_err, at_end}
use Rattle.ids_reader.proofs.specification.specifications_of.Goals as goal

pub returns-in-Err-Fault : goal.returns-in-Err-Fault
returns-in-Err-Fault c =
    let l = c.loop-item in
    let a = c.args in
    let fault : specification_of a.schema.now a.schema_id.now l.number (view c.item-item.result) ≡ Err c.in-Err-Fault.fault = search (rules, tests) in
    l.invariant.1 ∙ turn_err a.schema.now a.schema_id.now l.found.items l.number a.items.now l.item-index c.item-item.result c.in-Err-Fault.fault (omega arith) c.item-item.is fault

pub loop-item-preserved : goal.loop-item-preserved
loop-item-preserved c =
    let l = c.loop-item in
    let a = c.args in
    let q = c.in-Ok.specification in
    let rest = drop (l.item-index + 1) (map view a.items.now) in
    let read : specification_of a.schema.now a.schema_id.now l.number (view c.item-item.result) ≡ Ok q = search (rules, tests) in
    let pushed : c.push.new.self.items ≡ l.found.items ++ q ∷ [] = search (rules, tests) in (
      omega arith,
      l.invariant.1
          ∙ turn_ok a.schema.now a.schema_id.now l.found.items l.number a.items.now l.item-index c.item-item.result q (omega arith) c.item-item.is read
          ∙ ap (λ qs. behind qs (specifications_from a.schema.now a.schema_id.now (l.number + 1) rest)) (sym pushed),
    )

pub returns : goal.returns
returns c =
    let l = c.loop-item in
    let a = c.args in
    l.invariant.1 ∙ at_end a.schema.now a.schema_id.now l.found.items l.number a.items.now l.item-index (omega arith) ∙ ap Ok (sym c.from_vec.ensures)
