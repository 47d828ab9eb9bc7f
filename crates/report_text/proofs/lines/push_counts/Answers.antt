use Rattle.std.proofs.lemmas.Result.{on_ok_weaker}
use Rattle.report_text.proofs.LineLemmas.{counts_appended}
use Rattle.report_text.proofs.lines.push_counts.Goals as goal

pub returns : goal.returns
returns c =
    on_ok_weaker c.push_decimal-2.result
    (λ last. counts_appended c.args.tally.now _ _ _ _ _ _ _ _ _ _ _ c.passes_one.ensures c.verdict_word.ensures c.from.ensures c.as_slice.ensures
    c.in_ok-push_text.ensures c.in_ok-push_text-2.ensures c.in_ok-push_text-3.ensures c.in_ok-push_decimal.ensures.ok c.in_ok-push_text-4.ensures last)
    c.push_decimal-2.ensures.ok
