use Rattle.std.proofs.Common.{◌≡◌, ◌∙◌, sym, nat_lt, true, false}
use Rattle.std.specs.List.{prefix_len, slice_get}
use Rattle.audit_model.specs.declared.report.Failing.{Failing}
use Rattle.dirty_board.specs.Tallying.{is_elem}
use Rattle.dirty_board.proofs.Failings.{parts_other, parts_gone}
use Rattle.dirty_board.proofs.failing.forget.Goals as goal

pub returns-then-stands_at-clause-front : goal.returns-then-stands_at-clause-front
returns-then-stands_at-clause-front c =
    let place : c.place_before-place.result ≡ prefix_len (λ (f : Failing). nat_lt f.elem c.args.elem) c.args.failing.now.items = rw (← c.deref.ensures.value) c.place_before-place.ensures.value in
    let there : is_elem c.args.elem (slice_get c.args.failing.now.items c.place_before-place.result) ≡ true = rw (← c.deref-2.ensures.value) (sym c.stands_at.ensures ∙ c.if-stands_at.true) in
    rw (c.remove.ensures.items, place) (parts_gone c.args.elem c.args.failing.now.items c.requires (rw place at there)).0

pub returns-then-stands_at-clause-back : goal.returns-then-stands_at-clause-back
returns-then-stands_at-clause-back c =
    let place : c.place_before-place.result ≡ prefix_len (λ (f : Failing). nat_lt f.elem c.args.elem) c.args.failing.now.items = rw (← c.deref.ensures.value) c.place_before-place.ensures.value in
    let there : is_elem c.args.elem (slice_get c.args.failing.now.items c.place_before-place.result) ≡ true = rw (← c.deref-2.ensures.value) (sym c.stands_at.ensures ∙ c.if-stands_at.true) in
    rw (c.remove.ensures.items, place) (parts_gone c.args.elem c.args.failing.now.items c.requires (rw place at there)).1

pub returns-else-stands_at-clause-front : goal.returns-else-stands_at-clause-front
returns-else-stands_at-clause-front c =
    let place : c.place_before-place.result ≡ prefix_len (λ (f : Failing). nat_lt f.elem c.args.elem) c.args.failing.now.items = rw (← c.deref.ensures.value) c.place_before-place.ensures.value in
    let there : is_elem c.args.elem (slice_get c.args.failing.now.items c.place_before-place.result) ≡ false = rw (← c.deref-2.ensures.value) (sym c.stands_at.ensures ∙ c.if-stands_at.false) in
    rw place (parts_other c.args.elem c.args.failing.now.items c.requires (rw place at there)).0

pub returns-else-stands_at-clause-back : goal.returns-else-stands_at-clause-back
returns-else-stands_at-clause-back c =
    let place : c.place_before-place.result ≡ prefix_len (λ (f : Failing). nat_lt f.elem c.args.elem) c.args.failing.now.items = rw (← c.deref.ensures.value) c.place_before-place.ensures.value in
    let there : is_elem c.args.elem (slice_get c.args.failing.now.items c.place_before-place.result) ≡ false = rw (← c.deref-2.ensures.value) (sym c.stands_at.ensures ∙ c.if-stands_at.false) in
    rw place (parts_other c.args.elem c.args.failing.now.items c.requires (rw place at there)).1
