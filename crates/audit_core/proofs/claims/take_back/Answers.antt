use Rattle.std.proofs.Common.{rules, ◌==◌, not}
use Rattle.std.proofs.lemmas.Fn.{filter_same}
use Rattle.audit_model.specs.declared.step.Given.{Given}
use Rattle.audit_core.proofs.Ends.{removed_shorter}
use Rattle.audit_core.proofs.claims.take_back.Goals as goal

pub returns-clause-rest : goal.returns-clause-rest
returns-clause-rest c = filter_same _ (λ (x : Given). not (x.number == c.args.number)) _ (λ x b f' h. search rules) _ _ c.retain.ensures.filtered

pub returns-clause-shorter : goal.returns-clause-shorter
returns-clause-shorter c = rw (returns-clause-rest c) (removed_shorter _ _)
