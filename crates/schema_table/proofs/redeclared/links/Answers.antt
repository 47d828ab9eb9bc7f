use Rattle.std.proofs.Common.{◌≡◌, ◌∙◌, ap, refl, arith, ◌<◌, take, length, get_or, ℕ, List, Option, Some, if◌then◌else◌}
use Rattle.std.specs.Option.{option_and_then}
use Rattle.std.proofs.lemmas.List.{take_all}
use Rattle.schema_table.specs.Climbing.{step}
use Rattle.schema_table.specs.Order.{has_number}
use Rattle.schema_table.specs.Redeclared.{redeclares_any}
use Rattle.schema_table.proofs.Numbers.{is_whole, length-parents}
use Rattle.schema_table.proofs.Redeclaring.{links_more}
use Rattle.schema_table.proofs.redeclared.links.Goals as goal

pub loop-number-preserved : goal.loop-number-preserved
loop-number-preserved c =
    let number : ℕ = get_or c.args.order.now c.loop-number.number-index 0 in
    let link = c.link_of-link.ensures ∙ ap (λ (l : List (Option ℕ)). if redeclares_any c.args.entities.now number then Some number else option_and_then (step l) (step c.args.parents.now number)) c.deref.ensures.value in
    links_more c.args.entities.now (is_whole c.args.entities.now _ c.requires.faultless) c.args.parents.now c.requires.parents c.args.order.now c.requires.first c.loop-number.number-index number (omega arith) refl
    c.loop-number.links.items c.set_link.new.links.items c.link_of-link.result c.loop-number.invariant.0 c.loop-number.invariant.1 link c.set_link.ensures

pub returns : goal.returns
returns c = λ x h.
    let long : length c.args.parents.now ≡ length c.args.entities.now = ap length c.requires.parents ∙ length-parents c.args.entities.now in
    let inside : x < length c.args.parents.now = omega arith in
    let all : take c.loop-number.number-index c.args.order.now ≡ c.args.order.now = take_all c.loop-number.number-index c.args.order.now c.loop-number-test.false in
    c.loop-number.invariant.1 x h (ap (λ (l : List ℕ). has_number l x) all ∙ c.requires.all x inside)
