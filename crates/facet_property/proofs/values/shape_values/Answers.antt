use Rattle.std.proofs.Common.{◌++◌, [], ap, ◌∙◌, refl}
use Rattle.std.specs.Str.{chars}
use Rattle.facet_property.proofs.values.shape_values.Goals as goal

pub returns-in-Bounded : goal.returns-in-Bounded
unfolding chars
returns-in-Bounded c = rw (c.in-Bounded.is, c.whole_of-in-Bounded.ensures, c.whole_of-in-Bounded-2.ensures, c.whole_of-in-Bounded-3.ensures) refl

pub returns-in-Table : goal.returns-in-Table
unfolding chars
returns-in-Table c = rw (c.in-Table.is, c.members_of-first.ensures, c.members_of-in-Table.ensures) refl

pub returns-in-Length : goal.returns-in-Length
unfolding chars
returns-in-Length c = rw c.in-Length.is (c.one-in-Length.ensures ∙ ap (λ vs. vs ++ []) c.whole_of-in-Length.ensures)

pub returns-in-Area : goal.returns-in-Area
unfolding chars
returns-in-Area c = rw c.in-Area.is (c.one-in-Area.ensures ∙ ap (λ vs. vs ++ []) c.whole_of-in-Area.ensures)

pub returns-in-Volume : goal.returns-in-Volume
unfolding chars
returns-in-Volume c = rw c.in-Volume.is (c.one-in-Volume.ensures ∙ ap (λ vs. vs ++ []) c.whole_of-in-Volume.ensures)

pub returns-in-Count : goal.returns-in-Count
unfolding chars
returns-in-Count c = rw c.in-Count.is (c.one-in-Count.ensures ∙ ap (λ vs. vs ++ []) c.whole_of-in-Count.ensures)

pub returns-in-Weight : goal.returns-in-Weight
unfolding chars
returns-in-Weight c = rw c.in-Weight.is (c.one-in-Weight.ensures ∙ ap (λ vs. vs ++ []) c.whole_of-in-Weight.ensures)

pub returns-in-Time : goal.returns-in-Time
unfolding chars
returns-in-Time c = rw c.in-Time.is (c.one-in-Time.ensures ∙ ap (λ vs. vs ++ []) c.whole_of-in-Time.ensures)
