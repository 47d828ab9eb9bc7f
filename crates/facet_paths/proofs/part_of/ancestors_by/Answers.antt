use Rattle.std.proofs.Common.{◌≡◌, ◌++◌, refl, subst}
use Rattle.audit_model.specs.Paths.{above}
use Rattle.audit_model.specs.Closures.{closure, most_after}
use Rattle.closure_walk.specs.Walking.{SameKeys}
use Rattle.facet_paths.proofs.Paths.{ancestors_made}
use Rattle.facet_paths.proofs.part_of.ancestors_by.Goals as goal

after_is : 2147483646 ≡ most_after
unfolding most_after
after_is = refl

pub returns : goal.returns
returns g c =
    let parents : c.step.new.ends.items ≡ (above c.args.schema.now c.args.roles.now c.args.from).answer (g.L.Look.seen c.args.look.now)
    = rw c.new-parents.ensures.items at c.in_ok-step.ensures.ends in
    let all : c.in_ok-all.all.keys ≡ (closure most_after (above c.args.schema.now c.args.roles.now) c.step.new.ends.items).answer (g.L.Look.seen c.args.look.now)
    = subst (λ n. c.in_ok-all.all.keys ≡ (closure n (above c.args.schema.now c.args.roles.now) c.step.new.ends.items).answer (g.L.Look.seen c.args.look.now)) after_is (rw c.as_slice.ensures.value at c.in_ok-all.ensures.ends) in
    let looked : SameKeys c.close.new.reads.items (c.step.new.reads.items ++ (closure most_after (above c.args.schema.now c.args.roles.now) c.step.new.ends.items).keys (g.L.Look.seen c.args.look.now))
    = subst (λ n. SameKeys c.close.new.reads.items (c.step.new.reads.items ++ (closure n (above c.args.schema.now c.args.roles.now) c.step.new.ends.items).keys (g.L.Look.seen c.args.look.now))) after_is (rw c.as_slice.ensures.value at c.in_ok-all.ensures.reads) in
    ancestors_made c.args.schema.now (g.L.Look.seen c.args.look.now) c.args.roles.now c.args.from _ _ _ c.step.new.reads.items _ parents c.in_ok-step.ensures.reads all looked
