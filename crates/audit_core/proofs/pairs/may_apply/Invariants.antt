-- the facets so far admit the name, so all admit it exactly where those that are left do
use Rattle.std.proofs.Common.{◌≡◌, drop}
use Rattle.std.specs.List.{list_all}
use Rattle.audit_model.specs.Facets.{admits_entity}
use Rattle.audit_core.proofs.pairs.may_apply.Given as goal

abbrev pub invariant-loop-facet : goal.invariant-loop-facet
invariant-loop-facet l = list_all (admits_entity l.entity) l.spec.applicability ≡ list_all (admits_entity l.entity) (drop l.facet-index l.spec.applicability)
