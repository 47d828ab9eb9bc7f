use Rattle.script_read.proofs.CutLemmas.{line_total}
use Rattle.script_read.proofs.laws.lines_and_feeds.Goals as goal

pub returns : goal.returns
returns c = line_total
