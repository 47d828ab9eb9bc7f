use Rattle.std.proofs.Common.{◌≡◌, ◌∙◌, sym, ap, subst}
use Rattle.audit_model.specs.Scratch.{applies}
use Rattle.dirty_board.specs.declared.rows.Kept.{Kept}
use Rattle.dirty_board.specs.Rows.{with_row, without_key}
use Rattle.dirty_board.specs.Tallying.{AreTold}
use Rattle.dirty_board.proofs.Told.{dropped_told, not_dropped, rising_told, same_board, Follow}
use Rattle.dirty_board.proofs.ledger.Ledger.unsettle.Goals as goal

pub take_back-requires : goal.take_back-requires
take_back-requires c = rising_told c.self.inside.tallies c.self.inside.table c.unsettle.ensures.ascending c.self.invariant

pub invariant_of-self : goal.invariant_of-self
invariant_of-self c =
    let was : c.applies-was.result ≡ applies c.in-Some.kept.verdict = c.applies-was.ensures ∙ ap (λ (k : Kept). applies k.verdict) c.get.ensures in
    let follow : Follow c.self.inside.tallies (with_row c.args.pair (without_key c.args.key) c.self.inside.table) c.take_back.new.self = dropped_told c.args.pair c.args.key c.in-Some.kept c.applies-was.result c.self.inside.table c.self.inside.tallies c.take_back.new.self c.unsettle.ensures.ascending (sym c.in-Some.ensures.dropped) was c.self.invariant c.take_back.ensures in
    rw c.unsettle.ensures.rows follow.1

pub invariant_of-self-in_default : goal.invariant_of-self-in_default
invariant_of-self-in_default c =
    rw c.unsettle.ensures.rows (subst (AreTold c.self.inside.tallies) (not_dropped c.args.pair c.args.key c.self.inside.table (sym c.in_default.ensures.dropped)) c.self.invariant)

pub returns-in-Some-clause-rows : goal.returns-in-Some-clause-rows
returns-in-Some-clause-rows c =
    let was : c.applies-was.result ≡ applies c.in-Some.kept.verdict = c.applies-was.ensures ∙ ap (λ (k : Kept). applies k.verdict) c.get.ensures in
    let follow : Follow c.self.inside.tallies (with_row c.args.pair (without_key c.args.key) c.self.inside.table) c.take_back.new.self = dropped_told c.args.pair c.args.key c.in-Some.kept c.applies-was.result c.self.inside.table c.self.inside.tallies c.take_back.new.self c.unsettle.ensures.ascending (sym c.in-Some.ensures.dropped) was c.self.invariant c.take_back.ensures in
    rw (← c.self.view_is, c.unsettle.ensures.rows) (same_board c.self.inside.tallies c.take_back.new.self (with_row c.args.pair (without_key c.args.key) c.self.inside.table) follow.0)
