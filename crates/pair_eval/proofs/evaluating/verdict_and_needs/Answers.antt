use Rattle.model_view.specs.Views.{seen_in}
use Rattle.pair_eval.proofs.Steps.{verdict_is, needs_are}
use Rattle.pair_eval.proofs.evaluating.verdict_and_needs.Goals as goal

pub returns-clause-verdict : goal.returns-clause-verdict
returns-clause-verdict c =
    verdict_is c.args.schema.now c.args.specs.now c.args.pair c.args.snapshot.now.model (seen_in c.args.snapshot.now) c.in_ok-verdict.verdict _ _
    (c.shows_its_model.ensures c.args.schema.now c.args.snapshot.now c.requires.index) c.in_ok-verdict.ensures

pub returns-clause-needs : goal.returns-clause-needs
returns-clause-needs c =
    needs_are c.same_need.ensures c.args.schema.now c.args.specs.now c.args.pair c.args.snapshot.now.model (seen_in c.args.snapshot.now) c.in_ok-verdict.verdict _ _ c.in_order-needs.result
    (c.shows_its_model.ensures c.args.schema.now c.args.snapshot.now c.requires.index) c.new-reads.ensures c.in_ok-verdict.ensures c.in_order-needs.ensures
