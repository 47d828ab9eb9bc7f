use Rattle.std.proofs.Common.{ap, sym}
use Rattle.std.specs.Str.{chars}
use Rattle.schema_table.specs.Relationships.{relationship}
use Rattle.schema_table.proofs.relation.relationship_entity.Goals as goal

pub returns-in-Properties : goal.returns-in-Properties
unfolding chars
returns-in-Properties c = ap (λ r. (relationship r).entity) (sym c.in-Properties.is)

pub returns-in-Kind : goal.returns-in-Kind
unfolding chars
returns-in-Kind c = ap (λ r. (relationship r).entity) (sym c.in-Kind.is)

pub returns-in-Classification : goal.returns-in-Classification
unfolding chars
returns-in-Classification c = ap (λ r. (relationship r).entity) (sym c.in-Classification.is)

pub returns-in-Material : goal.returns-in-Material
unfolding chars
returns-in-Material c = ap (λ r. (relationship r).entity) (sym c.in-Material.is)

pub returns-in-Aggregates : goal.returns-in-Aggregates
unfolding chars
returns-in-Aggregates c = ap (λ r. (relationship r).entity) (sym c.in-Aggregates.is)

pub returns-in-Nests : goal.returns-in-Nests
unfolding chars
returns-in-Nests c = ap (λ r. (relationship r).entity) (sym c.in-Nests.is)

pub returns-in-Contained : goal.returns-in-Contained
unfolding chars
returns-in-Contained c = ap (λ r. (relationship r).entity) (sym c.in-Contained.is)

pub returns-in-Group : goal.returns-in-Group
unfolding chars
returns-in-Group c = ap (λ r. (relationship r).entity) (sym c.in-Group.is)

pub returns-in-Voids : goal.returns-in-Voids
unfolding chars
returns-in-Voids c = ap (λ r. (relationship r).entity) (sym c.in-Voids.is)

pub returns-in-Fills : goal.returns-in-Fills
unfolding chars
returns-in-Fills c = ap (λ r. (relationship r).entity) (sym c.in-Fills.is)
