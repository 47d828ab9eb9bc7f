use Rattle.std.proofs.Common.{◌≡◌}
use Rattle.audit_model.specs.Edits.{apply}
use Rattle.audit_core.proofs.plan.plan_commit.Goals as goal

pub returns : goal.returns
returns c =
    let next : c.in_ok-next.next.model ≡ apply c.args.schema.now c.args.now.now.model c.args.edits.now = c.in_ok-next.ensures.model in
    record {
      judged = rw (← c.revision.ensures) c.in-Ok.ensures.accepted;
      next_is = record { model = next; revision = c.in_ok-next.ensures.revision; index = c.in_ok-next.ensures.index c.requires.index };
      keys_are = λ k. rw (← next) (c.in_ok-next.ensures.changed k);
      keys_ascend = c.in_ok-next.ensures.ascending;
      gone_are = rw (← next) c.in_ok-gone.ensures;
      come_are = rw (← next) c.in_ok-come.ensures;
    }
