use Rattle.std.proofs.Common.{take, false, subst, sym, ap, ◌∷◌, ◌++◌, [], ◌==◌, ◌∙◌}
use Rattle.std.specs.List.{list_any}
use Rattle.std.specs.BTreeSet.{insert_key}
use Rattle.std.specs.Ordering.{nat_cmp}
use Rattle.std.proofs.lemmas.List.{take_all, take_more}
use Rattle.p21_read.specs.Known.{AreKnown}
use Rattle.p21_read.proofs.KnownLaws.{known_more}
use Rattle.p21_read.proofs.gathered.ids_of.Goals as goal

pub loop-instance-preserved : goal.loop-instance-preserved
loop-instance-preserved c =
    let front = take c.loop-instance.instance-index c.args.instances.now in
    subst (λ xs. AreKnown false 0 c.insert.new.self.keys xs)
    (sym (take_more c.args.instances.now c.loop-instance.instance-index c.instance-item.result c.loop-instance-test.true ∙ ap (λ x. front ++ x ∷ []) (sym c.instance-item.is)))
    (known_more c.loop-instance.ids.keys c.insert.new.self.keys c.instance-item.result front c.loop-instance.invariant
    (c.in_ok-insert.ensures.keys ∙ ap (insert_key nat_cmp c.loop-instance.ids.keys) c.get.ensures.value))

pub loop-instance-init : goal.loop-instance-init
loop-instance-init c = λ n. ap (list_any (◌==◌ n)) c.new-ids.ensures.empty

pub returns : goal.returns
returns c = subst (λ xs. AreKnown false 0 c.loop-instance.ids.keys xs) (take_all c.loop-instance.instance-index c.args.instances.now c.loop-instance-test.false) c.loop-instance.invariant
