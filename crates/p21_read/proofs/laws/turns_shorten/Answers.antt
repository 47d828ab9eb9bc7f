use Rattle.p21_read.proofs.GapLaws.{gap_shortens}
use Rattle.p21_read.proofs.StringLaws.{groups_shorten, pieces_shorten}
use Rattle.p21_read.proofs.ValueTurns.{values_shorten}
use Rattle.p21_read.proofs.HeaderLaws.{further_shortens}
use Rattle.p21_read.proofs.FileLaws.{rows_shorten, sections_shorten}
use Rattle.p21_read.proofs.laws.turns_shorten.Goals as goal

pub returns-clause-gap : goal.returns-clause-gap
returns-clause-gap c = gap_shortens

pub returns-clause-groups : goal.returns-clause-groups
returns-clause-groups c = groups_shorten

pub returns-clause-pieces : goal.returns-clause-pieces
returns-clause-pieces c = pieces_shorten

pub returns-clause-values : goal.returns-clause-values
returns-clause-values c = values_shorten

pub returns-clause-header : goal.returns-clause-header
returns-clause-header c = further_shortens

pub returns-clause-rows : goal.returns-clause-rows
returns-clause-rows c = rows_shorten

pub returns-clause-sections : goal.returns-clause-sections
returns-clause-sections c = sections_shorten
