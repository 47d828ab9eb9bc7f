use Rattle.std.proofs.Common.{◌∙◌}
use Rattle.ifc_base.specs.declared.key.Key.TheVariants.{Inst, Refs}
use Rattle.inverse_index.proofs.Replacing.{standing_holders, standing_refs}
use Rattle.inverse_index.proofs.index.InverseIndex.of.Goals as goal

pub returns-clause-referrers : goal.returns-clause-referrers
returns-clause-referrers c = λ i r. c.in_ok-lists.ensures (Refs i r) ∙ standing_refs c.args.schema.now c.args.instances.now i r

pub returns-clause-holders : goal.returns-clause-holders
returns-clause-holders c = λ i. c.in_ok-lists.ensures (Inst i) ∙ standing_holders c.args.schema.now c.args.instances.now i
