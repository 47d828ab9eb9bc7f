use Rattle.std.proofs.Common.{◌∙◌, ◌+◌, ap, sym, take, drop, reverse, Option, arith}
use Rattle.std.specs.Option.{option_or}
use Rattle.schema_table.specs.declared.fault.SchemaFault.{SchemaFault}
use Rattle.schema_table.specs.Declarations.{entity_fault}
use Rattle.schema_table.proofs.Checking.{one_entity}
use Rattle.schema_table.proofs.checks.names_fault.Goals as goal

pub returns-in-Some : goal.returns-in-Some
returns-in-Some c =
    sym (c.loop-number.invariant
    ∙ one_entity c.args.entities.now c.args.index.now c.requires.index c.loop-number.number c.index-entities-number.result (omega arith) (sym c.index-entities-number.is)
    ∙ ap (λ (o : Option SchemaFault). option_or o (entity_fault c.args.entities.now (reverse (take (c.loop-number.number + 1) c.args.entities.now)) (drop (c.loop-number.number + 1) c.args.entities.now))) (sym c.in_ok-fault.ensures ∙ c.in-Some.is))

pub loop-number-preserved : goal.loop-number-preserved
loop-number-preserved c =
    c.loop-number.invariant
    ∙ one_entity c.args.entities.now c.args.index.now c.requires.index c.loop-number.number c.index-entities-number.result (omega arith) (sym c.index-entities-number.is)
    ∙ ap (λ (o : Option SchemaFault). option_or o (entity_fault c.args.entities.now (reverse (take (c.loop-number.number + 1) c.args.entities.now)) (drop (c.loop-number.number + 1) c.args.entities.now))) (sym c.in_ok-fault.ensures ∙ c.in_default.is)
