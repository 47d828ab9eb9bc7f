use Rattle.std.proofs.Common.{◌≡◌, ◌++◌, refl, subst, ◌∙◌}
use Rattle.audit_model.specs.Closures.{closure, most_hops}
use Rattle.closure_walk.specs.Walking.{SameKeys}
use Rattle.facet_paths.proofs.members.members_of.Goals as goal

hops_is : 2147483647 ≡ most_hops
unfolding most_hops
hops_is = refl

pub returns-clause-ids : goal.returns-clause-ids
returns-clause-ids g c =
    c.in_ok-ids.ensures ∙ subst (λ n. c.in_ok-members.members.keys ≡ (closure n (g.S.Step.taken c.args.step.now) c.args.starts.now).answer (g.S.Step.seen c.args.step.now)) hops_is c.in_ok-members.ensures.ends

pub returns-clause-reads : goal.returns-clause-reads
returns-clause-reads g c =
    subst (λ n. SameKeys c.close.new.reads.items (c.args.reads.now.items ++ (closure n (g.S.Step.taken c.args.step.now) c.args.starts.now).keys (g.S.Step.seen c.args.step.now))) hops_is c.in_ok-members.ensures.reads
