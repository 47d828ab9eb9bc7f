use Rattle.std.proofs.Common.{◌≡◌, ◌<◌, ◌∙◌, sym, subst, arith, [], Some, None}
use Rattle.std.specs.Str.{chars}
use Rattle.schema_table.specs.Schema.{Schema, place_of}
use Rattle.schema_table.specs.Declarations.{schema_fault}
use Rattle.schema_table.proofs.Lookups.{no_place, place_by_slots, few_without_fault}
use Rattle.schema_table.proofs.Bounds.{place_fits}
use Rattle.schema_table.proofs.lookup.Lookup.place_named.Goals as goal

pub returns-in_err-number : goal.returns-in_err-number
returns-in_err-number c = c.from_residual.ensures ∙ no_place c.args.self.now c.args.entity.now (chars c.args.attr.now) (sym c.in_err-number.ensures)

pub returns-in_err-place : goal.returns-in_err-place
returns-in_err-place c =
    c.from_residual-in_err-place.ensures ∙ sym c.in_err-place.was ∙ c.slot_place.ensures ∙ place_by_slots c.args.self.now c.args.entity.now (chars c.args.attr.now) c.slots.result.now c.slots.ensures

pub returns : goal.returns
returns c = sym c.in_ok-place.was ∙ c.slot_place.ensures ∙ place_by_slots c.args.self.now c.args.entity.now (chars c.args.attr.now) c.slots.result.now c.slots.ensures

pub overflow_cast-result : goal.overflow_cast-result
overflow_cast-result c =
    let at : place_of c.args.self.now c.args.entity.now (chars c.args.attr.now) ≡ Some c.in_ok-place.place = sym (returns c) in
    let faultless = subst (λ (s : Schema). schema_fault s [] ≡ None) c.self.view_is c.self.invariant.faultless in
    let fits : c.in_ok-place.place < 4294967296 = place_fits c.args.self.now (few_without_fault c.args.self.now faultless) c.args.entity.now (chars c.args.attr.now) c.in_ok-place.place at in
    omega arith
