use Rattle.std.proofs.Common.{◌≡◌, take, filter}
use Rattle.audit_model.specs.Judging.{least}
use Rattle.commit_rules.specs.Dangles.{is_newly_missing}
use Rattle.commit_rules.proofs.missing.missing_to.Given as goal

abbrev pub invariant-loop-id : goal.invariant-loop-id
invariant-loop-id g l = l.least ≡ least (filter (is_newly_missing l.overlay.put (g.L.Look.seen l.look).instance l.instance.id) (take l.id-index l.id-items))
