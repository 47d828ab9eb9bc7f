use Rattle.std.proofs.Common.{◌≡◌, ◌∙◌, ◌<◌, ap, refl, arith, length, take, get_or, List, ℕ}
use Rattle.std.proofs.lemmas.List.{take_all}
use Rattle.schema_table.specs.Order.{has_number}
use Rattle.schema_table.proofs.Numbers.{length-parents}
use Rattle.schema_table.proofs.Inheriting.{base_made, number_inside, shares_more}
use Rattle.schema_table.proofs.shares.attributes_of.Goals as goal

pub next_share-requires-clause-inside : goal.next_share-requires-clause-inside
next_share-requires-clause-inside c =
    number_inside c.args.entities.now c.args.parents.now c.requires.parents c.args.order.now c.requires.first c.loop-number.number-index (get_or c.args.order.now c.loop-number.number-index 0) (omega arith) refl

pub next_share-requires-clause-part : goal.next_share-requires-clause-part
next_share-requires-clause-part c =
    (base_made c.args.entities.now c.args.parents.now c.requires.parents c.args.order.now c.requires.first c.loop-number.number-index (get_or c.args.order.now c.loop-number.number-index 0) (omega arith) refl
    c.loop-number.lists.items c.loop-number.shares.items c.loop-number.invariant.0 c.loop-number.invariant.2).there

pub next_share-requires-clause-slots : goal.next_share-requires-clause-slots
next_share-requires-clause-slots c =
    (base_made c.args.entities.now c.args.parents.now c.requires.parents c.args.order.now c.requires.first c.loop-number.number-index (get_or c.args.order.now c.loop-number.number-index 0) (omega arith) refl
    c.loop-number.lists.items c.loop-number.shares.items c.loop-number.invariant.0 c.loop-number.invariant.2).has

pub loop-number-preserved : goal.loop-number-preserved
loop-number-preserved c =
    shares_more c.args.entities.now c.args.order.now c.loop-number.number-index (get_or c.args.order.now c.loop-number.number-index 0) (omega arith) refl
    (number_inside c.args.entities.now c.args.parents.now c.requires.parents c.args.order.now c.requires.first c.loop-number.number-index (get_or c.args.order.now c.loop-number.number-index 0) (omega arith) refl)
    c.loop-number.lists.items c.next_share.new.lists.items c.loop-number.shares.items c.next_share.new.shares.items c.loop-number.invariant.0 c.loop-number.invariant.1 c.loop-number.invariant.2
    c.in_ok-next_share.ensures.kept c.in_ok-next_share.ensures.shared

pub returns : goal.returns
returns c = λ x h.
    let long : length c.args.parents.now ≡ length c.args.entities.now = ap length c.requires.parents ∙ length-parents c.args.entities.now in
    let inside : x < length c.args.parents.now = omega arith in
    let all : take c.loop-number.number-index c.args.order.now ≡ c.args.order.now = take_all c.loop-number.number-index c.args.order.now c.loop-number-test.false in
    (c.loop-number.invariant.2 x h (ap (λ (l : List ℕ). has_number l x) all ∙ c.requires.all x inside)).1
