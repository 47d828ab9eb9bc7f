-- Worked rows: two classification references whose sources are each other, and a reference that isn't there and comes.
use Rattle.std.proofs.Common.{◌≡◌, ℕ, ◌≤◌, true, false, List, [], ◌∷◌, ◌++◌, Some, None, refl, codes, lit≤}
use Rattle.ifc_base.specs.declared.value.Instance.{Instance}
use Rattle.ifc_base.specs.declared.value.Value.{Value}
use Rattle.ifc_base.specs.declared.key.Key.TheVariants.{Inst}
use Rattle.ifc_base.specs.Tree.{text_value, ref_value, list_value}
use Rattle.schema_table.specs.Schema.{Schema, is_kind_of, attributes, place_of}
use Rattle.restrictions.specs.Admitting.{admits_text}
use Rattle.restrictions.specs.declared.condition.Condition.TheVariants.{Simple}
use Rattle.audit_model.specs.declared.facet.Facet.{Facet}
use Rattle.audit_model.specs.declared.facet.Facet.TheVariants.{Classification}
use Rattle.audit_model.specs.Keys.{Sight, sight, changes}
use Rattle.audit_model.specs.Closures.{reached, most_hops}
use Rattle.audit_model.specs.Paths.{forward_by}
use Rattle.audit_model.specs.Verdicts.{weigh}
use Rattle.audit_model.proofs.ClosureLaws.{IsClosed, stays_closed}
use Rattle.audit_model.proofs.Rows.{absent, fold_text, fold_ref, fold_absent, fold_list}

abbrev entities : Schema
entities =
    record { name = codes "IFCROOT"; parent = None; is_abstract = true; own = codes "GlobalId" ∷ codes "OwnerHistory" ∷ codes "Name" ∷ codes "Description" ∷ []; derived = [] }
    ∷ record { name = codes "IFCWALL"; parent = Some (codes "IFCROOT"); is_abstract = false; own = []; derived = [] }
    ∷ record { name = codes "IFCRELATIONSHIP"; parent = Some (codes "IFCROOT"); is_abstract = true; own = []; derived = [] }
    ∷ record { name = codes "IFCRELDEFINESBYTYPE"; parent = Some (codes "IFCRELATIONSHIP"); is_abstract = false; own = codes "RelatedObjects" ∷ codes "RelatingType" ∷ []; derived = [] }
    ∷ record { name = codes "IFCRELASSOCIATESCLASSIFICATION"; parent = Some (codes "IFCRELATIONSHIP"); is_abstract = false; own = codes "RelatedObjects" ∷ codes "RelatingClassification" ∷ []; derived = [] }
    ∷ record { name = codes "IFCCLASSIFICATIONREFERENCE"; parent = None; is_abstract = false; own = codes "Location" ∷ codes "Identification" ∷ codes "Name" ∷ codes "ReferencedSource" ∷ codes "Description" ∷ codes "Sort" ∷ []; derived = [] }
    ∷ []

abbrev wall : ℕ → Instance
wall id = record { id = id; entity = codes "IFCWALL"; params = text_value (codes "w") ∷ absent ∷ absent ∷ absent ∷ [] }

-- a classification reference of this identification, with this source
abbrev reference : ℕ → List ℕ → Value → Instance
reference id name source = record { id = id; entity = codes "IFCCLASSIFICATIONREFERENCE"; params = absent ∷ text_value name ∷ absent ∷ source ∷ absent ∷ absent ∷ [] }

-- it relates the first wall to this reference
abbrev associates : ℕ → Instance
associates to = record { id = 62; entity = codes "IFCRELASSOCIATESCLASSIFICATION"; params = text_value (codes "c") ∷ absent ∷ absent ∷ absent ∷ list_value (ref_value 10 ∷ []) ∷ ref_value to ∷ [] }

-- a classification reference of this identification is asked for
abbrev asks : List ℕ → Facet
asks name = Classification (record { system = None; value = Some (Simple name) })

-- ---- two references in a circle

abbrev circle : List Instance
circle = wall 10 ∷ wall 11 ∷ reference 60 (codes "A") (ref_value 61) ∷ reference 61 (codes "B") (ref_value 60) ∷ associates 60 ∷ []

circle_closed : IsClosed (forward_by entities (codes "ReferencedSource" ∷ [])) (sight entities circle) (60 ∷ 61 ∷ [])
unfolding is_kind_of place_of attributes
circle_closed = simp (fold_text, fold_ref, fold_absent, fold_list) refl

circle_round : (reached (forward_by entities (codes "ReferencedSource" ∷ [])) 1 (60 ∷ [])).answer (sight entities circle) ≡ 60 ∷ 61 ∷ []
unfolding is_kind_of place_of attributes reached
circle_round = simp (fold_text, fold_ref, fold_absent, fold_list) refl

circle_all : (reached (forward_by entities (codes "ReferencedSource" ∷ [])) most_hops (60 ∷ [])).answer (sight entities circle) ≡ 60 ∷ 61 ∷ []
unfolding most_hops
circle_all = stays_closed (forward_by entities (codes "ReferencedSource" ∷ [])) (sight entities circle) (60 ∷ []) 1 (60 ∷ 61 ∷ []) circle_round circle_closed most_hops (lit≤ tt)

-- the first wall is classified by the source of its reference, the second not at all
first_in_circle : ((weigh entities (asks (codes "B")) 10).answer (sight entities circle)).holds ≡ true
unfolding is_kind_of place_of attributes admits_text
first_in_circle = simp (fold_text, fold_ref, fold_absent, fold_list, circle_all) refl

second_in_circle : ((weigh entities (asks (codes "B")) 11).answer (sight entities circle)).holds ≡ false
unfolding is_kind_of place_of attributes admits_text
second_in_circle = simp (fold_text, fold_ref, fold_absent, fold_list, circle_all) refl

-- ---- a reference that isn't there, and comes

abbrev without : List Instance
without = wall 10 ∷ wall 11 ∷ associates 99 ∷ []

abbrev having : List Instance
having = wall 10 ∷ wall 11 ∷ associates 99 ∷ reference 99 (codes "A") absent ∷ []

missing_closed : IsClosed (forward_by entities (codes "ReferencedSource" ∷ [])) (sight entities without) (99 ∷ [])
unfolding is_kind_of place_of attributes
missing_closed = refl

missing_all : (reached (forward_by entities (codes "ReferencedSource" ∷ [])) most_hops (99 ∷ [])).answer (sight entities without) ≡ 99 ∷ []
unfolding most_hops reached
missing_all = stays_closed (forward_by entities (codes "ReferencedSource" ∷ [])) (sight entities without) (99 ∷ []) 0 (99 ∷ []) refl missing_closed most_hops (lit≤ tt)

there_closed : IsClosed (forward_by entities (codes "ReferencedSource" ∷ [])) (sight entities having) (99 ∷ [])
unfolding is_kind_of place_of attributes
there_closed = simp (fold_text, fold_ref, fold_absent, fold_list) refl

there_all : (reached (forward_by entities (codes "ReferencedSource" ∷ [])) most_hops (99 ∷ [])).answer (sight entities having) ≡ 99 ∷ []
unfolding most_hops reached
there_all = stays_closed (forward_by entities (codes "ReferencedSource" ∷ [])) (sight entities having) (99 ∷ []) 0 (99 ∷ []) refl there_closed most_hops (lit≤ tt)

fails_without : ((weigh entities (asks (codes "A")) 10).answer (sight entities without)).holds ≡ false
unfolding is_kind_of place_of attributes admits_text
fails_without = simp (fold_text, fold_ref, fold_absent, fold_list, missing_all) refl

holds_then : ((weigh entities (asks (codes "A")) 10).answer (sight entities having)).holds ≡ true
unfolding is_kind_of place_of attributes admits_text
holds_then = simp (fold_text, fold_ref, fold_absent, fold_list, there_all) refl

-- the commit that adds it changes the key of its id, on which the closure stood
it_comes : changes entities without having (Inst 99) ≡ true
unfolding changes
it_comes = refl
