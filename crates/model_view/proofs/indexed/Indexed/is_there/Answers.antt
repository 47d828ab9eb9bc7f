use Rattle.std.proofs.Common.{◌≡◌, ◌∙◌, ap, rules, is_some}
use Rattle.audit_model.proofs.EditLaws.{present_found}
use Rattle.model_view.proofs.Doing.{some_copied}
use Rattle.model_view.proofs.indexed.Indexed.is_there.Goals as goal

pub returns : goal.returns
returns c =
    let some : c.is_some.result ≡ is_some c.instance.result = search rules in
    some ∙ some_copied c.instance.result ∙ ap is_some c.instance.ensures ∙ present_found c.args.id c.args.self.now.model
