use Rattle.std.proofs.Common.{◌≡◌, ◌++◌, Some, true, false, option_copied, sym, ap, ◌∙◌, rules, codes}
use Rattle.std.specs.Option.{option_and_then}
use Rattle.std.proofs.lemmas.List.{append-nil}
use Rattle.schema_table.specs.Attributes.{text}
use Rattle.restrictions.specs.Admitting.{admits_text}
use Rattle.facet_property.specs.Held.{properties_of}
use Rattle.facet_property.proofs.Asking.{asked_in, unasked_in}
use Rattle.facet_property.proofs.sets.find_in_set.Goals as goal

pub returns-in_ok-find_all-clause-found : goal.returns-in_ok-find_all-clause-found
returns-in_ok-find_all-clause-found g c =
    let h : option_and_then (λ x. text c.args.schema.now x (codes "Name")) (option_copied c.args.set) ≡ Some c.in-Some-name_of.name.now = search rules in
    let e : admits_text c.args.facet.now.set c.in-Some-name_of.name.now ≡ true = sym c.in_ok-admits_name.ensures ∙ c.if-branch.true in
    c.in_ok-find_all.ensures
    ∙ ap (λ ps. properties_of c.args.found.now.items ++ ps)
    (sym (asked_in c.args.schema.now c.args.facet.now c.in-Some-name_of.name.now (g.L.Look.seen c.args.look.now).instance (option_and_then (λ x. text c.args.schema.now x (codes "Name")) (option_copied c.args.set)) c.args.ids.now h e))

pub returns-else-branch-clause-found : goal.returns-else-branch-clause-found
returns-else-branch-clause-found g c =
    let h : option_and_then (λ x. text c.args.schema.now x (codes "Name")) (option_copied c.args.set) ≡ Some c.in-Some-name_of.name.now = search rules in
    let e : admits_text c.args.facet.now.set c.in-Some-name_of.name.now ≡ false = sym c.in_ok-admits_name.ensures ∙ c.if-branch.false in
    sym (ap (λ ps. properties_of c.args.found.now.items ++ ps)
    (unasked_in c.args.schema.now c.args.facet.now c.in-Some-name_of.name.now (g.L.Look.seen c.args.look.now).instance (option_and_then (λ x. text c.args.schema.now x (codes "Name")) (option_copied c.args.set)) c.args.ids.now h e)
    ∙ append-nil (properties_of c.args.found.now.items))
