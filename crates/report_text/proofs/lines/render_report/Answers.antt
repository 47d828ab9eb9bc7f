use Rattle.std.proofs.Common.{◌∙◌}
use Rattle.report_text.proofs.LineLemmas.{report_appended}
use Rattle.report_text.proofs.lines.render_report.Goals as goal

pub returns : goal.returns
returns c =
    c.from_vec.ensures
    ∙ report_appended c.args.revision c.args.tallies.now _ _ _ _ _ c.passes.ensures c.new-out.ensures.items c.in_ok-push_revision.ensures c.in_ok-push_tallies.ensures c.in_ok-push_end.ensures
