use Rattle.std.proofs.Common.{◌≡◌, take, map}
use Rattle.audit_model.specs.Pairs.{pairs}
use Rattle.audit_core.proofs.pairs.pairs_of.Given as goal

abbrev pub invariant-loop-spec : goal.invariant-loop-spec
invariant-loop-spec l = l.list.items ≡ pairs (take l.spec-index l.specs) (map (λ x. x.now) l.instances)
