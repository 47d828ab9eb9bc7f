use Rattle.std.proofs.Common.{◌≡◌, ◌∙◌, sym, ap}
use Rattle.audit_model.specs.Scratch.{applies}
use Rattle.dirty_board.specs.declared.rows.Kept.{Kept}
use Rattle.dirty_board.specs.Rows.{without_row}
use Rattle.dirty_board.proofs.Told.{empty_gone, gone_told, rising_told, same_board, Follow}
use Rattle.dirty_board.proofs.ledger.Ledger.remove.Goals as goal

pub take_back-requires : goal.take_back-requires
take_back-requires c = rising_told c.self.inside.tallies c.self.inside.table c.remove.ensures.ascending c.self.invariant

pub invariant_of-self : goal.invariant_of-self
invariant_of-self c =
    let counted : c.applies-counted.result ≡ applies c.in-Some.kept.verdict = c.applies-counted.ensures ∙ ap (λ (k : Kept). applies k.verdict) c.get.ensures in
    let follow : Follow c.self.inside.tallies (without_row c.args.pair c.self.inside.table) c.take_back.new.self = gone_told c.args.pair c.in-Some.kept c.applies-counted.result c.self.inside.table c.self.inside.tallies c.take_back.new.self c.remove.ensures.ascending (sym c.in-Some.ensures.kept) counted c.self.invariant c.take_back.ensures in
    rw c.remove.ensures.rows follow.1

pub invariant_of-self-in_default : goal.invariant_of-self-in_default
invariant_of-self-in_default c = rw c.remove.ensures.rows (empty_gone c.args.pair c.self.inside.table c.self.inside.tallies (sym c.in_default.ensures.kept) c.self.invariant)

pub returns-in-Some-clause-rows : goal.returns-in-Some-clause-rows
returns-in-Some-clause-rows c =
    let counted : c.applies-counted.result ≡ applies c.in-Some.kept.verdict = c.applies-counted.ensures ∙ ap (λ (k : Kept). applies k.verdict) c.get.ensures in
    let follow : Follow c.self.inside.tallies (without_row c.args.pair c.self.inside.table) c.take_back.new.self = gone_told c.args.pair c.in-Some.kept c.applies-counted.result c.self.inside.table c.self.inside.tallies c.take_back.new.self c.remove.ensures.ascending (sym c.in-Some.ensures.kept) counted c.self.invariant c.take_back.ensures in
    rw (← c.self.view_is, c.remove.ensures.rows) (same_board c.self.inside.tallies c.take_back.new.self (without_row c.args.pair c.self.inside.table) follow.0)
