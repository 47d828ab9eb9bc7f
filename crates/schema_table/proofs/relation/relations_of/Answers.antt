use Rattle.std.proofs.Common.{◌≡◌, ◌∙◌, ◌++◌, ◌<◌, ◌≤◌, ap, sym, arith, filter_map, get_or, length, List, []}
use Rattle.std.specs.List.{cons_option}
use Rattle.std.proofs.lemmas.List.{take_all}
use Rattle.ifc_base.specs.declared.key.Role.TheVariants.{Properties}
use Rattle.schema_table.specs.declared.relation.Relation.{Relation}
use Rattle.schema_table.specs.Relationships.{relation, relations}
use Rattle.schema_table.proofs.Relating.{mapped_more}
use Rattle.schema_table.proofs.relation.relations_of.Goals as goal

pub loop-role-preserved : goal.loop-role-preserved
loop-role-preserved c =
    let long : length c.all_roles-roles.result ≡ 10 = ap length c.all_roles-roles.ensures in
    let less : c.loop-role.role-index < length c.all_roles-roles.result = omega arith in
    c.in_ok-add_role.ensures
    ∙ ap (λ (l : List Relation). l ++ cons_option (relation c.args.lookup.now (get_or c.all_roles-roles.result c.loop-role.role-index Properties)) []) c.loop-role.invariant
    ∙ sym (mapped_more (relation c.args.lookup.now) c.all_roles-roles.result c.loop-role.role-index Properties less)

pub returns : goal.returns
unfolding relations
returns c =
    let long : length c.all_roles-roles.result ≡ 10 = ap length c.all_roles-roles.ensures in
    let all : length c.all_roles-roles.result ≤ c.loop-role.role-index = omega arith in
    c.from_vec.ensures ∙ c.loop-role.invariant ∙ ap (filter_map (relation c.args.lookup.now)) (take_all c.loop-role.role-index c.all_roles-roles.result all ∙ c.all_roles-roles.ensures)
