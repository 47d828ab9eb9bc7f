use Rattle.std.proofs.Common.{◌≡◌, ℕ, List, IfOk, subst, reverse}
use Rattle.ifc_base.specs.declared.key.Key.{Key}
use Rattle.ifc_base.specs.declared.value.Instance.{Instance}
use Rattle.audit_model.specs.History.{current, revision, last_change}
use Rattle.inverse_index.specs.Log.{last_in}
use Rattle.audit_core.specs.Cores.{CoreView}
use Rattle.audit_core.specs.Commits.{IsPlanned}
use Rattle.audit_core.proofs.audit.Core.plan.Goals as goal

pub plan_commit-requires : goal.plan_commit-requires
plan_commit-requires c = record { index = c.self.invariant.now.index; few = rw c.self.invariant.now.model c.self.invariant.size }

pub returns : goal.returns
returns c =
    let lasts : last_in c.self.inside.log ≡ last_change (record { schema = c.self.inside.schema.now; specs = c.self.inside.specs.now; first = c.self.inside.first.model; limits = c.self.inside.limits }) (reverse c.self.inside.journal.entries) = λ i k. c.self.invariant.changes k i in
    subst (λ (core : CoreView). IfOk c.plan_commit.result (λ p. IsPlanned core.ground.schema core.ground.specs core.ground.limits (last_change core.ground core.history) c.args.base (revision core.history) (current core.ground core.history) c.args.edits.now p)) c.self.view_is
    (subst (λ (m : List Instance). IfOk c.plan_commit.result (λ p. IsPlanned c.self.inside.schema.now c.self.inside.specs.now c.self.inside.limits (last_change (record { schema = c.self.inside.schema.now; specs = c.self.inside.specs.now; first = c.self.inside.first.model; limits = c.self.inside.limits }) (reverse c.self.inside.journal.entries)) c.args.base (revision (reverse c.self.inside.journal.entries)) m c.args.edits.now p)) c.self.invariant.now.model
    (subst (λ (r : ℕ). IfOk c.plan_commit.result (λ p. IsPlanned c.self.inside.schema.now c.self.inside.specs.now c.self.inside.limits (last_change (record { schema = c.self.inside.schema.now; specs = c.self.inside.specs.now; first = c.self.inside.first.model; limits = c.self.inside.limits }) (reverse c.self.inside.journal.entries)) c.args.base r c.self.inside.current.model c.args.edits.now p)) c.self.invariant.now.revision
    (subst (λ (last : Key → ℕ). IfOk c.plan_commit.result (λ p. IsPlanned c.self.inside.schema.now c.self.inside.specs.now c.self.inside.limits last c.args.base c.self.inside.current.revision c.self.inside.current.model c.args.edits.now p)) lasts c.plan_commit.ensures)))
