use Rattle.std.proofs.Common.{◌∙◌, ◌≤◌, ap, subst, arith, length, position, List, Option, Some, None, Bool, ℕ}
use Rattle.schema_table.specs.Climbing.{lifts, AreMarks}
use Rattle.schema_table.proofs.Cycling.{first_marked_is}
use Rattle.schema_table.proofs.cycles.first_on_cycle.Goals as goal

pub returns-in-Some : goal.returns-in-Some
returns-in-Some c =
    let far : length c.args.entities.now ≤ 8192 = omega arith in
    let marks = subst (λ (ps : List (Option ℕ)). AreMarks (lifts ps 8192) c.in_ok-marks.marks.items) c.requires.parents c.in_ok-marks.ensures in
    c.entity_at.ensures ∙ first_marked_is c.args.entities.now 8192 c.in_ok-marks.marks.items far c.requires.names marks (Some c.in-Some.place) (c.in-Some.ensures ∙ ap (position (λ (b : Bool). b)) c.deref.ensures.value)

pub returns : goal.returns
returns c =
    let far : length c.args.entities.now ≤ 8192 = omega arith in
    let marks = subst (λ (ps : List (Option ℕ)). AreMarks (lifts ps 8192) c.in_ok-marks.marks.items) c.requires.parents c.in_ok-marks.ensures in
    first_marked_is c.args.entities.now 8192 c.in_ok-marks.marks.items far c.requires.names marks None (c.in-None.ensures ∙ ap (position (λ (b : Bool). b)) c.deref.ensures.value)
