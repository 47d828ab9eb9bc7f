use Rattle.std.proofs.Common.{refl, sym}
use Rattle.audit_run.specs.declared.calls.Act.TheVariants as act
use Rattle.audit_run.specs.Holding.{taken_by}
use Rattle.audit_run.proofs.ActLaws.{return_done, return_none}
use Rattle.audit_run.proofs.Firsts.{none_removed}
use Rattle.audit_run.proofs.PlayLaws.{out_of, gave_back, played_none, unchanged_self}
use Rattle.audit_run.proofs.calls.give_back.Goals as goal
use Rattle.audit_run.proofs.calls.give_back.Goals.{in-Some, in-None}

pub give_back-requires : goal.give_back-requires
give_back-requires c =
    let k = rw (← c.hands.view_is) at c.requires in
    (out_of k c.in-Some.ensures.first c.take_claim.ensures.others).own.is_out

pub returns-clause-play : goal.returns-clause-play
returns-clause-play c =
    let k = rw (← c.hands.view_is) at c.requires in
    elim c.match-take_claim.branch [
      | in-Some w ↦ rw w.core-is (gave_back act.Return c.args.actor w.in-Some.claim.number w.in-Some.claim c.take_claim.new.claims.items tt k (out_of k w.in-Some.ensures.first c.take_claim.ensures.others) refl w.give_back.ensures)
      | in-None w ↦
          rw (w.core-is, c.take_claim.ensures.others, none_removed (taken_by c.args.actor) c.hands.inside.claims.items (sym w.in-None.ensures.first))
          (played_none (record { drafts = c.hands.inside.drafts.items; claims = c.hands.inside.claims.items }) (record { actor = c.args.actor; act = act.Return }) (unchanged_self c.args.core.now) k)
    ]

pub returns-clause-acts : goal.returns-clause-acts
returns-clause-acts c = elim c.match-take_claim.branch [
  | in-Some w ↦ rw (← c.hands.view_is, w.core-is, c.take_claim.ensures.others) (return_done (record { drafts = c.hands.inside.drafts.items; claims = c.hands.inside.claims.items }) c.args.actor w.in-Some.claim w.in-Some.ensures.first w.give_back.ensures)
  | in-None w ↦ rw (← c.hands.view_is, w.core-is, c.take_claim.ensures.others) (return_none c.args.core.now (record { drafts = c.hands.inside.drafts.items; claims = c.hands.inside.claims.items }) c.args.actor w.in-None.ensures.first)
]
