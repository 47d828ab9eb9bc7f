use Rattle.std.proofs.Common.{rules}
use Rattle.std.proofs.lemmas.Result.{err_from_is_err_and}
use Rattle.shelf_io.proofs.Progress.{write_step, less_sure, rest_sure}
use Rattle.shelf_io.proofs.whole.write_all.Goals as goal

pub loop-at-preserved : goal.loop-at-preserved
loop-at-preserved g c = record {
  within = search rules;
  written = write_step _ _ _ c.args.bytes.now c.loop-at.at c.in_ok-at.field-0 c.loop-at.invariant.written c.in_ok-at.ensures.written;
  calm = search rules;
  left = less_sure (g.K.Sink.sure c.args.sink.now) (g.K.Sink.sure c.loop-at.sink) (g.K.Sink.sure c.write.new.self)
      c.loop-at.at c.in_ok-at.field-0 c.loop-at.invariant.left c.in_ok-at.ensures.left;
}

pub returns-in_err-at-clause-err : goal.returns-in_err-at-clause-err
returns-in_err-at-clause-err g c =
    let p = err_from_is_err_and c.from_residual.result c.from_residual.ensures.1 in
    rw p.1 (c.loop-at.at, search rules, search rules)

pub returns-in_err-at-clause-sure : goal.returns-in_err-at-clause-sure
returns-in_err-at-clause-sure g c more sure =
    let went = c.in_err-at.ensures.sure more (rest_sure (g.K.Sink.sure c.args.sink.now) (g.K.Sink.sure c.loop-at.sink) c.args.bytes.now c.loop-at.at
    c.loop-at.invariant.within more c.loop-at.invariant.left sure) in
    absurd (cc)
