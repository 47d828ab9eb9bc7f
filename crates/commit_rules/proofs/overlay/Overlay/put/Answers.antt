use Rattle.commit_rules.proofs.Puts.{updated}
use Rattle.commit_rules.proofs.overlay.Overlay.put.Goals as goal

pub returns-in-Ok-clause-put : goal.returns-in-Ok-clause-put
returns-in-Ok-clause-put c = updated c.args.self.now.put c.insert.new.self c.args.id c.args.left.now c.in-Ok.ensures.updates.0
