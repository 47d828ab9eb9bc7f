use Rattle.std.proofs.Common.{◌≡◌, ◌∙◌, ◌==◌, ap, sym, subst, length, List, [], Option, Some, None, ℕ}
use Rattle.std.specs.List.{list_any}
use Rattle.std.specs.Str.{chars}
use Rattle.schema_table.specs.Schema.{Schema}
use Rattle.schema_table.specs.Declarations.{schema_fault}
use Rattle.schema_table.specs.Climbing.{chain, parents_of}
use Rattle.schema_table.proofs.Lookups.{kind_itself, kind_of_none, kind_unknown, kind_by_numbers}
use Rattle.schema_table.proofs.lookup.Lookup.is_kind_named.Goals as goal

pub returns-then-is_named : goal.returns-then-is_named
returns-then-is_named c = kind_itself c.args.self.now c.args.entity.now (chars c.args.kind.now) (sym c.is_named.ensures ∙ c.if-is_named.true)

pub returns-in-None : goal.returns-in-None
returns-in-None c = kind_of_none c.args.self.now c.args.entity.now (chars c.args.kind.now) (sym c.is_named.ensures ∙ c.if-is_named.false) (sym c.in-None.ensures)

pub returns-in-None-number_named : goal.returns-in-None-number_named
returns-in-None-number_named c =
    let faultless = subst (λ (s : Schema). schema_fault s [] ≡ None) c.self.view_is c.self.invariant.faultless in
    kind_unknown c.args.self.now faultless c.args.entity.now (chars c.args.kind.now) c.in-Some.number (sym c.is_named.ensures ∙ c.if-is_named.false) (sym c.in-Some.ensures) (sym c.in-None-number_named.ensures)

pub returns-in-Some-number_named : goal.returns-in-Some-number_named
returns-in-Some-number_named c =
    let faultless = subst (λ (s : Schema). schema_fault s [] ≡ None) c.self.view_is c.self.invariant.faultless in
    let parents = subst (λ (s : Schema). c.self.inside.parents.items ≡ parents_of s) c.self.view_is c.self.invariant.parents_are in
    c.is_above.ensures
    ∙ ap (λ (ps : List (Option ℕ)). list_any (λ x. x == c.in-Some-number_named.of) (chain ps (length ps) (Some c.in-Some.number))) c.deref.ensures.value
    ∙ kind_by_numbers c.args.self.now faultless c.self.inside.parents.items parents c.args.entity.now (chars c.args.kind.now) c.in-Some.number c.in-Some-number_named.of
    (sym c.is_named.ensures ∙ c.if-is_named.false) (sym c.in-Some.ensures) (sym c.in-Some-number_named.ensures)
