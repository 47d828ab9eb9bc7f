use Rattle.std.proofs.Common.{◌∙◌, ap, sym}
use Rattle.audit_model.specs.Edits.{edited}
use Rattle.model_view.proofs.Doing.{added, set_replaced}
use Rattle.model_view.proofs.indexed.Indexed.with_edit.Goals as goal

pub returns-in_ok-next-in-Add-clause-model : goal.returns-in_ok-next-in-Add-clause-model
returns-in_ok-next-in-Add-clause-model c = c.in_ok-next-in-Add.ensures.model ∙ added c.args.schema.now c.in-Add.x c.in_ok-copy-in-Add.copy c.args.self.now.model c.args.edit.now c.in-Add.is c.in_ok-copy-in-Add.ensures c.requires

pub returns-in_ok-next-in-Set-clause-model : goal.returns-in_ok-next-in-Set-clause-model
returns-in_ok-next-in-Set-clause-model c =
    c.in_ok-next-in-Set.ensures.model
    ∙ set_replaced c.args.schema.now c.in-Set.id c.in-Set.attr c.in-Set.value c.args.self.now.model c.in-Some.x.now c.in_ok-changed-in-Set.changed c.ascends.ensures (sym c.in-Some.ensures) c.in_ok-changed-in-Set.ensures
    ∙ ap (edited c.args.schema.now c.args.self.now.model) (sym c.in-Set.is)
