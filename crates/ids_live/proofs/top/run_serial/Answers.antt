use Rattle.ids_live.proofs.Completeness.{all_complete, all_sure}
use Rattle.ids_live.proofs.top.run_serial.Goals as goal

pub returns-clause-complete : goal.returns-clause-complete
returns-clause-complete g c =
    all_complete _ _ _ _ _ _ _ _ _ _ _ _ c.run.result c.run.ensures.status c.run.ensures.words c.run.ensures.shelf c.run.ensures.sink c.run.ensures.run

pub returns-clause-sure : goal.returns-clause-sure
returns-clause-sure g c =
    all_sure _ _ _ _ _ (g.H.Shelf.steady c.args.shelf.now) (g.O.Sink.sure c.args.out.now) _ _ _ _ c.run.result c.run.ensures.status c.run.ensures.shelf c.run.ensures.sink c.run.ensures.steady c.run.ensures.sure
