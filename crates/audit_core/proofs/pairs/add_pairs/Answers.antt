use Rattle.std.proofs.Common.{◌∙◌, ◌++◌, ap, map}
use Rattle.std.proofs.lemmas.List.{append_assoc, take_all}
use Rattle.audit_core.proofs.First.{pairs_next, pairs_all}
use Rattle.audit_core.proofs.pairs.add_pairs.Goals as goal

pub loop-instance-preserved : goal.loop-instance-preserved
loop-instance-preserved c =
    rw (c.in_ok-add_pair.ensures, c.loop-instance.invariant, c.in_ok-wanted.ensures, pairs_next (λ x. x.now) c.args.spec.now c.args.instances.now c.loop-instance.instance-index c.instance-item.result c.loop-instance-test.true c.instance-item.is)
    (simp append_assoc)

pub returns : goal.returns
returns c =
    c.loop-instance.invariant
    ∙ rw (take_all c.loop-instance.instance-index c.args.instances.now c.loop-instance-test.false) (ap (λ rs. c.args.list.now.items ++ rs) (pairs_all c.args.spec.now (map (λ x. x.now) c.args.instances.now) c.if-not-spec.false))
