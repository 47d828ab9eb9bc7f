use Rattle.std.proofs.Common.{subst, sym, ap, ◌∙◌, false}
use Rattle.std.specs.BTreeSet.{insert_key}
use Rattle.std.specs.Ordering.{nat_cmp}
use Rattle.p21_read.specs.Known.{AreKnown}
use Rattle.p21_read.proofs.KnownLaws.{known_more}
use Rattle.p21_read.proofs.gathered.add_among.Goals as goal

pub returns-in-Ok-clause-known : goal.returns-in-Ok-clause-known
returns-in-Ok-clause-known c =
    subst (λ xs. AreKnown false 0 c.insert.new.self.keys xs) (sym c.in_ok-push.ensures.more)
    (known_more c.args.ids.now.keys c.insert.new.self.keys c.args.instance c.args.instances.now.items c.requires
    (c.in-Ok.ensures.keys ∙ ap (insert_key nat_cmp c.args.ids.now.keys) c.get-number.ensures.value))
