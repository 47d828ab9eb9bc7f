use Rattle.std.proofs.Common.{◌≡◌, not, ◌&&◌, take, filter}
use Rattle.audit_model.specs.Models.{is_present}
use Rattle.audit_model.specs.Judging.{least, is_dangling}
use Rattle.model_view.proofs.missing.newly_missing.Given as goal

abbrev pub invariant-loop-id : goal.invariant-loop-id
invariant-loop-id l = l.least ≡ least (filter (λ to. not (is_present to l.new.model) && not (is_dangling l.old.model l.instance.id to)) (take l.id-index l.id-items))
