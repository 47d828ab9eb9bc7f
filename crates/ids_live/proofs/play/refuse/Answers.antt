use Rattle.std.proofs.Common.{◌≡◌, length, Err, sym, ◌∙◌}
use Rattle.ids_live.specs.Complete.{wanted}
use Rattle.ids_live.proofs.Ends.{no_more, wanted_line}
use Rattle.ids_live.proofs.play.refuse.Goals as goal

pub returns-clause-sure : goal.returns-clause-sure
returns-clause-sure g c =
    let is : wanted (Err c.args.refused.now) ≡ c.as_slice.result.now = wanted_line c.args.refused.now ∙ sym c.in-Ok.ensures ∙ sym c.as_slice.ensures in
    rw c.ended-in-Err.ensures.status (λ h. let ok = c.in-Err.ensures.sure 0 (no_more (g.K.Sink.sure c.args.out.now) (length c.as_slice.result.now) (rw is at h)) in cc)
