use Rattle.std.proofs.Common.{◌≡◌, ◌∙◌, refl}
use Rattle.audit_model.specs.Scratch.{scratch}
use Rattle.audit_model.specs.History.{commits, current, revision, model_at}
use Rattle.audit_model.proofs.Commits.{model_of-last}
use Rattle.dirty_board.specs.Tallying.{tallies_from}
use Rattle.audit_core.proofs.BoardTallies.{board_told}
use Rattle.audit_core.proofs.audit.Core.report.Goals as goal

pub returns-clause-report : goal.returns-clause-report
returns-clause-report c =
    let r : c.revision-revision.result ≡ revision c.args.self.now.history = rw (← c.self.view_is) (c.revision-revision.ensures ∙ c.self.invariant.now.revision) in
    let m : model_at c.args.self.now.ground c.args.self.now.history c.revision-revision.result ≡ current c.args.self.now.ground c.args.self.now.history = rw r (model_of-last c.args.self.now.ground (commits c.args.self.now.history)) in
    let none = rw (← c.self.view_is) at c.requires.none in
    let told : tallies_from 1 c.self.inside.board.headings c.self.inside.board.rows ≡ scratch c.args.self.now.ground.schema c.args.self.now.ground.specs (current c.args.self.now.ground c.args.self.now.history) = rw (← c.self.view_is) (board_told c.self.invariant none) in
    c.in-Ok.ensures ∙ rw (c.tallies.ensures, told, m) refl
