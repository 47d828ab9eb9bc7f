use Rattle.reading.proofs.Lines.{line_is, place_is}
use Rattle.reading.proofs.Says.{feeds_codes}
use Rattle.reading.proofs.laws.lines_count.Goals as goal

pub returns-clause-line : goal.returns-clause-line
returns-clause-line c = line_is

pub returns-clause-place : goal.returns-clause-place
returns-clause-place c = place_is

pub returns-clause-bytes : goal.returns-clause-bytes
returns-clause-bytes c = feeds_codes
