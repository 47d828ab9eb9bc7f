use Rattle.std.proofs.Common.{rules, ◌≡◌, ◌++◌, [], ◌∷◌, true, false, sym, ◌∙◌}
use Rattle.std.proofs.lemmas.Bool.{not-true, not-false}
use Rattle.std.specs.BTreeSet.{contains}
use Rattle.ifc_base.specs.KeyOrder.{key_cmp}
use Rattle.inverse_index.proofs.Differences.{seen_step, left_new, left_old}
use Rattle.inverse_index.proofs.difference.difference.Goals as goal
use Rattle.inverse_index.proofs.difference.difference.Goals.{then-branch+in_ok-push, else-branch}

pub loop-key-preserved : goal.loop-key-preserved
loop-key-preserved c = record {
  seen = seen_step c.args.others.now c.args.keys.now c.loop-key.key-index c.key-item.result c.loop-key.seen c.loop-key-test.true c.key-item.is c.loop-key.invariant.seen c.insert.new.self c.in_ok-insert.ensures.updates;
  left = elim c.if-branch.branch [
    | then-branch+in_ok-push w ↦
        let e : c.if-branch.left.items ≡ c.loop-key.left.items ++ c.key-item.result ∷ [] = search rules in
        let none : contains key_cmp c.loop-key.seen c.key-item.result ≡ false = not-true _ (sym c.in_ok-insert.ensures.added ∙ w.if-branch.true) in
        left_new c.args.others.now c.args.keys.now c.loop-key.key-index c.key-item.result c.loop-key.seen c.loop-key-test.true c.key-item.is c.loop-key.invariant.seen c.loop-key.left.items c.if-branch.left.items c.loop-key.invariant.left e none
    | else-branch w ↦
        let e : c.if-branch.left.items ≡ c.loop-key.left.items = search rules in
        let there : contains key_cmp c.loop-key.seen c.key-item.result ≡ true = not-false _ (sym c.in_ok-insert.ensures.added ∙ w.if-branch.false) in
        left_old c.args.others.now c.args.keys.now c.loop-key.key-index c.key-item.result c.loop-key.seen c.loop-key-test.true c.key-item.is c.loop-key.invariant.seen c.loop-key.left.items c.if-branch.left.items c.loop-key.invariant.left e there
  ];
}
