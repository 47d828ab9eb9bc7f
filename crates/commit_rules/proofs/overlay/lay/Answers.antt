use Rattle.std.proofs.Common.{◌∙◌, ap, sym}
use Rattle.inverse_index.specs.Log.{last_in}
use Rattle.commit_rules.specs.Overlays.{over}
use Rattle.commit_rules.proofs.Puts.{laid, put_by}
use Rattle.commit_rules.proofs.overlay.lay.Goals as goal

pub returns-in-Ok-clause-laid : goal.returns-in-Ok-clause-laid
returns-in-Ok-clause-laid g c =
    let below = (g.L.Look.seen c.args.look.now).instance in
    laid c.args.schema.now c.args.limits (last_in c.args.changes.now) c.args.base below c.args.overlay.now c.put.new.self c.args.edit.now c.in_ok-left.left _ (sym c.conflict.ensures ∙ c.in_default.is) (c.standing-held.ensures ∙ ap (over c.args.overlay.now.put below) c.id_of-id.ensures) c.in_ok-left.ensures.done
    (put_by c.args.overlay.now c.put.new.self c.args.edit.now _ _ c.id_of-id.ensures c.in-Ok.ensures.put) c.in-Ok.ensures.count
