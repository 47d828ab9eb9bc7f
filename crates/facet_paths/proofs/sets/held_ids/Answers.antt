use Rattle.std.proofs.Common.{◌++◌, ap, ◌∙◌, codes, option_copied}
use Rattle.std.specs.Str.{chars}
use Rattle.audit_model.specs.Hops.{references_in}
use Rattle.facet_paths.proofs.sets.held_ids.Goals as goal

pub returns : goal.returns
unfolding chars
returns c =
    c.in_ok-push_refs-2.ensures
    ∙ ap (λ is. is ++ references_in c.args.schema.now (option_copied c.args.set) (codes "Quantities"))
    (c.in_ok-push_refs.ensures ∙ ap (λ is. is ++ references_in c.args.schema.now (option_copied c.args.set) (codes "HasProperties")) c.new-ids.ensures.items)
