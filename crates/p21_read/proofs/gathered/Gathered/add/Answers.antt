use Rattle.p21_read.proofs.KnownLaws.{none_known, known_greater}
use Rattle.p21_read.proofs.gathered.Gathered.add.Goals as goal

pub push-requires : goal.push-requires
push-requires c =
    none_known c.self.inside.ascends c.self.inside.last c.get-number.result c.args.instance.id c.self.inside.ids.keys c.self.inside.instances.items
    c.if-self.true c.self.invariant c.if-number-self.true c.get-number.ensures.value

pub invariant_of-self-then-number-self : goal.invariant_of-self-then-number-self
invariant_of-self-then-number-self c =
    known_greater c.self.inside.ascends c.self.inside.last c.get-number.result c.self.inside.ids.keys c.args.instance c.self.inside.instances.items c.push.new.instances.items
    c.if-self.true c.self.invariant c.if-number-self.true c.get-number.ensures.value c.in_ok-push.ensures.more
