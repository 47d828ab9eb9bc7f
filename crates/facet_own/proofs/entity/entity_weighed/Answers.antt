use Rattle.std.proofs.Common.{◌++◌, subst, sym}
use Rattle.std.proofs.lemmas.List.{append-nil}
use Rattle.closure_walk.specs.Walking.{SameKeys}
use Rattle.audit_model.specs.Verdicts.{seen_for}
use Rattle.facet_own.proofs.entity.entity_weighed.Goals as goal

pub returns-clause-reads : goal.returns-clause-reads
returns-clause-reads g c =
    subst (λ ks. SameKeys c.weigh_entity.new.reads (c.args.reads.now ++ ks)) (sym (append-nil ((seen_for c.args.schema.now c.args.facet.now.predefined c.args.elem).keys (g.L.Look.seen c.args.look.now)))) c.in_ok-holds.ensures.reads
