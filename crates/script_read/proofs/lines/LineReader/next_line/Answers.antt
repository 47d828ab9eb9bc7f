use Rattle.std.proofs.Common.{◌∙◌, refl, sym}
use Rattle.script_read.proofs.CutLemmas.{cut_left, cut_rest}
use Rattle.script_read.proofs.lines.LineReader.next_line.Goals as goal

pub returns-in_default-clause-taken : goal.returns-in_default-clause-taken
returns-in_default-clause-taken c = (cut_left c.args.self.now c.self.inside.rest.now (sym c.self.view_is) (sym c.first_feed.ensures ∙ c.in_default.is), refl)

pub returns-clause-taken : goal.returns-clause-taken
returns-clause-taken c = cut_rest c.args.self.now c.self.inside.rest.now c.in-Some.end (sym c.self.view_is) (sym c.in-Some.ensures)
