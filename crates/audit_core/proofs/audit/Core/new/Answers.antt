use Rattle.std.proofs.Common.{◌≤◌, length, refl}
use Rattle.audit_model.specs.Models.{IsModel}
use Rattle.audit_model.proofs.OrderLemmas.{IsModel-model_of_file}
use Rattle.audit_model.proofs.PairOrder.{pairs_ascend}
use Rattle.audit_core.proofs.First.{kept_first, length-model_of_file}
use Rattle.audit_core.proofs.audit.Core.new.Goals as goal

pub new-requires : goal.new-requires
new-requires c =
    let ascends : IsModel c.in_ok-first.first.model = rw c.in_ok-first.ensures.model (IsModel-model_of_file c.args.file.instances c.requires.distinct) in
    rw (c.deref.ensures.value, c.in_ok-pairs.ensures, c.in_ok-current.ensures) (pairs_ascend c.args.specs.now c.in_ok-first.first.model c.requires.specifications.numbered ascends)

pub invariant_of-result : goal.invariant_of-result
invariant_of-result c =
    let few : length c.in_ok-first.first.model ≤ c.args.limits.instances = rw (c.in_ok-first.ensures.model, length-model_of_file c.args.file.instances) c.requires.few in
    rw (c.new-4.ensures, c.new-2.ensures.items, c.in_ok-board.ensures, c.deref.ensures.value, c.in_ok-pairs.ensures, c.in_ok-current.ensures)
    (kept_first (record { schema = c.args.schema.now; specs = c.args.specs.now; first = c.in_ok-first.first.model; limits = c.args.limits }) _ c.in_ok-first.first _ c.requires.specifications.numbered (rw c.in_ok-first.ensures.model (IsModel-model_of_file c.args.file.instances c.requires.distinct)) few (record { model = refl; revision = c.in_ok-first.ensures.revision; index = c.in_ok-first.ensures.index }) c.new-3.ensures)

pub returns-clause-ascending : goal.returns-clause-ascending
returns-clause-ascending c = rw c.in_ok-first.ensures.model (IsModel-model_of_file c.args.file.instances c.requires.distinct)
