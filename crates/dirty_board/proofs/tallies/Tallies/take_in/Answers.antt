use Rattle.std.proofs.Common.{◌∙◌, ◌<◌, ◌-◌, sym, ap, subst, arith, length, set, Some}
use Rattle.audit_model.specs.declared.report.Tally.{Tally}
use Rattle.dirty_board.specs.Tallying.{retold, AllRising, AreRising}
use Rattle.dirty_board.proofs.Tallied.{rising_at, set_tally, stay_high, stay_low}
use Rattle.dirty_board.proofs.tallies.Tallies.take_in.Goals as goal

pub returns-then-number-eq0-clause-done : goal.returns-then-number-eq0-clause-done
returns-then-number-eq0-clause-done c = stay_low c.args.pair.now.spec (retold c.args.pair.now.elem c.args.was (Some c.args.kept.now)) 1 c.args.self.now (omega (arith, c.if-number-eq0.true))

pub returns-then-number-len-clause-done : goal.returns-then-number-len-clause-done
returns-then-number-len-clause-done c = rw (← c.self.view_is) (stay_high c.args.pair.now.spec (retold c.args.pair.now.elem c.args.was (Some c.args.kept.now)) 1 c.self.inside.tallies.items (omega (arith, c.if-number-len.true, c.len.ensures, c.self.inside.tallies.ok.0)))

pub retell-requires : goal.retell-requires
retell-requires c =
    let within : c.args.pair.now.spec - 1 < length c.self.inside.tallies.items = omega (arith, c.if-number-eq0.false, c.if-number-len.false, c.len.ensures, c.self.inside.tallies.ok.0) in
    let rising : AllRising c.self.inside.tallies.items = rw (← c.self.view_is) at c.requires in
    subst (λ (t : Tally). AreRising t.failing) (sym c.index_mut.ensures.value) (rising_at c.self.inside.tallies.items (c.args.pair.now.spec - 1) c.index_mut.result.now rising within)

pub returns-clause-done : goal.returns-clause-done
returns-clause-done c =
    let within : c.args.pair.now.spec - 1 < length c.self.inside.tallies.items = omega (arith, c.if-number-eq0.false, c.if-number-len.false, c.len.ensures, c.self.inside.tallies.ok.0) in
    rw (← c.self.view_is)
    (ap (λ (t : Tally). set c.self.inside.tallies.items (c.args.pair.now.spec - 1) t) (c.in_ok-retell.ensures.done ∙ ap (retold c.args.pair.now.elem c.args.was (Some c.args.kept.now)) c.index_mut.ensures.value)
    ∙ set_tally c.args.pair.now.spec (retold c.args.pair.now.elem c.args.was (Some c.args.kept.now)) 1 c.self.inside.tallies.items (c.args.pair.now.spec - 1) c.index_mut.result.now (omega (arith, c.if-number-eq0.false)) within)
