use Rattle.decimal_fix.proofs.DefinitionLaws.{one_numeral, point_moves, sign_turns}
use Rattle.decimal_fix.proofs.laws.numerals.Goals as goal

pub returns-clause-point_moves : goal.returns-clause-point_moves
returns-clause-point_moves c = point_moves

pub returns-clause-sign_turns : goal.returns-clause-sign_turns
returns-clause-sign_turns c = sign_turns

pub returns-clause-one_numeral : goal.returns-clause-one_numeral
returns-clause-one_numeral c = one_numeral
