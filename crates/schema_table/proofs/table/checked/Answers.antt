use Rattle.std.proofs.Common.{◌∙◌, sym}
use Rattle.schema_table.proofs.Checking.{too_many_fault, other_faults, few_enough}
use Rattle.schema_table.proofs.table.checked.Goals as goal

pub returns-then-are_too_many-clause-fault : goal.returns-then-are_too_many-clause-fault
returns-then-are_too_many-clause-fault c = too_many_fault c.args.entities.now c.args.types.now (sym c.are_too_many.ensures ∙ c.if-are_too_many.true)

pub give_numbers-requires : goal.give_numbers-requires
give_numbers-requires c = few_enough c.args.entities.now c.args.types.now (sym c.are_too_many.ensures ∙ c.if-are_too_many.false)

pub returns-in-Some-clause-fault : goal.returns-in-Some-clause-fault
returns-in-Some-clause-fault c =
    other_faults c.args.entities.now c.args.types.now (sym c.are_too_many.ensures ∙ c.if-are_too_many.false) ∙ sym c.in_ok-refused.ensures ∙ c.in-Some.is

pub returns-in-None-clause-faultless : goal.returns-in-None-clause-faultless
returns-in-None-clause-faultless c =
    other_faults c.args.entities.now c.args.types.now (sym c.are_too_many.ensures ∙ c.if-are_too_many.false) ∙ sym c.in_ok-refused.ensures ∙ c.in-None.is
