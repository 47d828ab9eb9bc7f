use Rattle.std.proofs.Common.{◌≡◌, subst, sym, ◌∙◌}
use Rattle.audit_model.specs.Paths.{ancestors}
use Rattle.audit_model.specs.Relations.{roles_of}
use Rattle.facet_paths.specs.Reads.{Reads}
use Rattle.facet_paths.proofs.part_of.ancestors_of.Goals as goal

pub returns : goal.returns
returns g c =
    let s = c.args.schema.now in
    let v = g.L.Look.seen c.args.look.now in
    let roles : c.push_roles.new.roles.items ≡ roles_of c.args.relation = rw c.new-roles.ensures.items at c.in_ok-push_roles.ensures in
    subst (λ xs. Reads (ancestors s (roles_of c.args.relation) c.args.from) v xs c.args.reads.now.items c.ancestors_by.new.reads.items) (sym c.in_ok-ids.ensures)
    (subst (λ rs. Reads (ancestors s rs c.args.from) v c.in_ok-members.members.keys c.args.reads.now.items c.ancestors_by.new.reads.items) (c.as_slice.ensures.value ∙ roles) c.in_ok-members.ensures)
