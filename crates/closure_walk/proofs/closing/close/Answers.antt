use Rattle.std.proofs.Common.{rules, ◌≡◌, ◌++◌, [], ◌∷◌}
use Rattle.std.specs.List.{flat_map}
use Rattle.ifc_base.specs.declared.key.Key.TheVariants.{Inst}
use Rattle.closure_walk.proofs.Rounds.{closed}
use Rattle.closure_walk.proofs.closing.close.Goals as goal

pub returns-clause-ends : goal.returns-clause-ends
returns-clause-ends g c = c.in_ok-members.ensures.is_reached

pub returns-clause-reads : goal.returns-clause-reads
returns-clause-reads g c =
    let later : c.stand_all.new.reads.items ≡ c.spread.new.reads.items ++ flat_map (λ x. Inst x ∷ []) c.in_ok-members.left.items = search rules in
    closed _ _ c.args.starts.now c.args.most c.in_ok-members.members.keys c.in_ok-members.left.items _ _ _ (g.met.S.Step.stands c.args.step.now) c.in_ok-members.ensures later
