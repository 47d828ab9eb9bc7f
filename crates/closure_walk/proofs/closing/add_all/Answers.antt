use Rattle.std.proofs.Common.{rules, ◌≡◌, sym, subst, ◌∷◌, ◌++◌, []}
use Rattle.std.specs.BTreeSet.{insert_key}
use Rattle.std.specs.Ordering.{nat_cmp}
use Rattle.std.proofs.lemmas.Bool.{OnFalse_at}
use Rattle.closure_walk.specs.Walking.{IsFresh}
use Rattle.closure_walk.proofs.Rounds.{members_more, fresh_added, fresh_kept}
use Rattle.closure_walk.proofs.closing.add_all.Goals as goal
use Rattle.closure_walk.proofs.closing.add_all.Goals.{then-branch+in_ok-push, else-branch}

pub loop-id-preserved : goal.loop-id-preserved
loop-id-preserved c =
    let added : c.insert.new.self.keys ≡ insert_key nat_cmp c.loop-id.members.keys c.id-item.result = c.in_ok-insert.ensures.keys in
    record {
      members = members_more _ c.loop-id.members.keys _ c.args.ids.now c.loop-id.id-index c.id-item.result c.loop-id-test.true c.id-item.is c.loop-id.invariant.members added;
      fresh = elim c.if-branch.branch [
        | then-branch+in_ok-push w ↦
            let e : c.if-branch.fresh.items ≡ c.loop-id.fresh.items ++ c.id-item.result ∷ [] = search rules in
            subst (λ xs. IsFresh c.args.members.now.keys c.insert.new.self.keys xs) (sym e) (fresh_added _ c.loop-id.members.keys _ _ c.id-item.result added c.loop-id.invariant.fresh)
        | else-branch w ↦
            let e : c.if-branch.fresh.items ≡ c.loop-id.fresh.items = search rules in
            let same : c.insert.new.self.keys ≡ c.loop-id.members.keys = OnFalse_at w.if-branch.false c.in_ok-insert.ensures.unchanged in
            subst (λ xs. IsFresh c.args.members.now.keys c.insert.new.self.keys xs) (sym e) (fresh_kept _ c.loop-id.members.keys _ _ same c.loop-id.invariant.fresh)
      ];
    }
