use Rattle.std.proofs.Common.{Result, Err, chars, sym, ap, ◌∙◌, subst}
use Rattle.reading.specs.Lines.{Answers}
use Rattle.pattern_tree.specs.declared.tree.Tree.{Tree}
use Rattle.xsd_pattern.specs.declared.fault.PatternFault.{PatternFault}
use Rattle.xsd_pattern.specs.Reading.{reading}
use Rattle.xsd_pattern.proofs.ReadLaws.{reading_short, reading_long, is_found, reading_complete}
use Rattle.xsd_pattern.proofs.pattern.Pattern.read.Goals as goal

exact : (c : goal.After-answered) → Answers (λ (x : Tree). x) c.answered.result (reading (chars c.args.text.now))
exact c =
    subst (λ (r : Result Tree PatternFault). Answers (λ (x : Tree). x) c.answered.result r)
    (sym (reading_short (chars c.args.text.now) (sym c.is_short.ensures ∙ c.if-is_short.true))) c.answered.ensures

pub returns-then-is_short-clause-found : goal.returns-then-is_short-clause-found
returns-then-is_short-clause-found c = is_found (chars c.args.text.now) c.answered.result (exact c)

pub returns-then-is_short-clause-only : goal.returns-then-is_short-clause-only
returns-then-is_short-clause-only c = λ x p. subst (λ (r : Result Tree PatternFault). Answers (λ (y : Tree). y) c.answered.result r) (reading_complete (chars c.args.text.now) x p) (exact c)

pub returns-then-is_short-clause-exact : goal.returns-then-is_short-clause-exact
returns-then-is_short-clause-exact c = exact c

pub returns-else-is_short-clause-exact : goal.returns-else-is_short-clause-exact
returns-else-is_short-clause-exact c =
    reading_long (chars c.args.text.now) (sym c.is_short.ensures ∙ c.if-is_short.false) ∙ ap (λ (f : PatternFault). Err f) (sym c.of_all.ensures)
