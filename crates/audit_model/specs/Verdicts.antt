-- What a specification says of an element of a model (IDS 1.0, specification).
use Rattle.std.specs.Prelude.{ℕ, ◌+◌, ◌==◌, Bool, true, false, not, ◌||◌, if◌then◌else◌, List, [], ◌∷◌, Option, Some, None, find}
use Rattle.std.specs.List.{list_all}
use Rattle.ifc_base.specs.declared.value.Instance.{Instance}
use Rattle.schema_table.specs.Schema.{Schema}
use Rattle.audit_model.specs.declared.facet.Facet.{Facet}
use Rattle.audit_model.specs.declared.facet.Facet.TheVariants.{Entity, Attribute, Property, Classification, Material, PartOf}
use Rattle.audit_model.specs.declared.facet.EntityFacet.{EntityFacet}
use Rattle.audit_model.specs.declared.facet.PartOfFacet.{PartOfFacet}
use Rattle.audit_model.specs.declared.specification.Cardinality.{Cardinality}
use Rattle.audit_model.specs.declared.specification.Cardinality.TheVariants as cardinality
use Rattle.audit_model.specs.declared.specification.Occurs.{Occurs}
use Rattle.audit_model.specs.declared.specification.Occurs.TheVariants as occurrence
use Rattle.audit_model.specs.declared.specification.Requirement.{Requirement}
use Rattle.audit_model.specs.declared.specification.Specification.{Specification}
use Rattle.audit_model.specs.declared.verdict.Verdict.{Verdict}
use Rattle.audit_model.specs.declared.verdict.Verdict.TheVariants.{NotApplicable, Applicable}
use Rattle.audit_model.specs.declared.verdict.Pair.{Pair}
use Rattle.audit_model.specs.declared.verdict.Weighed.{Weighed}
use Rattle.restrictions.specs.declared.condition.Condition.{Condition}
use Rattle.audit_model.specs.Keys.{sight}
use Rattle.audit_model.specs.Reading.{Reading, told, stand, visit, ◌>>=◌}
use Rattle.audit_model.specs.Paths.{SeenKind, own_path, kind_path, property_path, classification_path, material_path, part_of_path, ancestors}
use Rattle.audit_model.specs.Facets.{holds_alike, entity_holds, attribute_weighed}
use Rattle.audit_model.specs.Properties.{property_weighed}
use Rattle.audit_model.specs.Relations.{roles_of, classification_weighed, material_weighed, part_of_any, part_of_kind}

-- Cardinality of a requirement (IDS 1.0): a required facet has to hold, a prohibited one not to; an optional one has to hold where its
-- subject is there.
abbrev pub is_met : Cardinality → Weighed → Bool
is_met cardinality.Required w = w.holds
is_met cardinality.Prohibited w = not w.holds
is_met cardinality.Optional w = not w.subject || w.holds

-- the numbers, the first being n, of those that are false
abbrev pub numbers_of_false : ℕ → List Bool → List ℕ
numbers_of_false n [] = []
numbers_of_false n (b ∷ bs) = if b then numbers_of_false (n + 1) bs else n ∷ numbers_of_false (n + 1) bs

module _ (s : Schema) where
  -- the types are looked at only where a predefined type is asked for
  abbrev pub seen_for : Option Condition → ℕ → Reading SeenKind
  seen_for None e = do
    x ← own_path s e
    told (record { itself = x; types = [] })
  seen_for (Some c) e = kind_path s e

  abbrev pub part_of_weighed : PartOfFacet → Option EntityFacet → ℕ → Reading Bool
  part_of_weighed f None e = do
    seen ← part_of_path s (roles_of f.relation) e
    told (part_of_any s seen)
  part_of_weighed f (Some entity) e = do
    ids ← ancestors s (roles_of f.relation) e
    seen ← visit (seen_for entity.predefined) ids
    told (part_of_kind s entity seen)

  -- whether the facet holds of the element with this id, and whether its subject is there
  abbrev pub weigh : Facet → ℕ → Reading Weighed
  weigh (Entity f) e = do
    seen ← seen_for f.predefined e
    told (holds_alike (entity_holds s f seen))
  weigh (Attribute f) e = do
    seen ← own_path s e
    told (attribute_weighed s f seen)
  weigh (Property f) e = do
    seen ← property_path s e
    told (property_weighed s f seen)
  weigh (Classification f) e = do
    seen ← classification_path s e
    told (classification_weighed s f seen)
  weigh (Material f) e = do
    seen ← material_path s e
    told (material_weighed s f seen)
  weigh (PartOf f) e = do
    holds ← part_of_weighed f f.entity e
    told (holds_alike holds)

  abbrev pub requirement_met : ℕ → Requirement → Reading Bool
  requirement_met e r = do
    w ← weigh r.facet e
    told (is_met r.cardinality w)

  abbrev pub asked : List Requirement → ℕ → Reading Verdict
  asked rs e = do
    met ← visit (requirement_met e) rs
    told (Applicable (numbers_of_false 1 met))

  -- the requirements of a prohibited specification aren't looked at
  abbrev pub asked_by : Occurs → List Requirement → ℕ → Reading Verdict
  asked_by occurrence.Prohibited rs e = told (Applicable [])
  asked_by occurrence.Required rs e = asked rs e
  asked_by occurrence.Optional rs e = asked rs e

  abbrev pub assess_when : Bool → Specification → ℕ → Reading Verdict
  assess_when false q e = told NotApplicable
  assess_when true q e = asked_by q.occurs q.requirements e

  -- The specification is applicable to the element where each facet of its applicability holds. The verdict then names, by their
  -- numbers from 1, the requirements that the element doesn't meet.
  abbrev pub assess : Specification → ℕ → Reading Verdict
  assess q e = do
    _ ← stand e
    ws ← visit (λ f. weigh f e) q.applicability
    assess_when (list_all (λ w. w.holds) ws) q e

  abbrev pub assess_found : Option Specification → ℕ → Reading Verdict
  assess_found None e = do
    _ ← stand e
    told NotApplicable
  assess_found (Some q) e = assess q e

  -- of a pair, whose specification goes by its number
  abbrev pub assess_pair : List Specification → Pair → Reading Verdict
  assess_pair specs p = assess_found (find (λ q. q.number == p.spec) specs) p.elem

-- the verdict of a specification on the element with this id
unfoldable pub verdict_of : Schema → Specification → ℕ → List Instance → Verdict
verdict_of s q e m = (assess s q e).answer (sight s m)

-- the verdict on a pair
unfoldable pub verdict : Schema → List Specification → Pair → List Instance → Verdict
verdict s specs p m = (assess_pair s specs p).answer (sight s m)
