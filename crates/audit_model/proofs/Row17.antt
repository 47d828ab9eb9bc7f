-- Each of the six facets holds of the first wall and not of the second: what the definitions say of the part of the model that each
-- path sees.
use Rattle.std.proofs.Common.{◌≡◌, true, false, List, [], ◌∷◌, Some, None, map, refl, ap, codes, lit≤}
use Rattle.ifc_base.specs.declared.value.Instance.{Instance}
use Rattle.ifc_base.specs.Tree.{text_value, ref_value, list_value}
use Rattle.ifc_base.specs.declared.key.Role.TheVariants as role
use Rattle.schema_table.specs.Schema.{Schema, is_kind_of, attributes, place_of}
use Rattle.audit_model.specs.declared.facet.Facet.TheVariants.{Entity, Attribute, Property, Classification, Material, PartOf}
use Rattle.audit_model.specs.declared.facet.Relation.TheVariants as relation
use Rattle.audit_model.specs.Keys.{sight}
use Rattle.restrictions.specs.Admitting.{admits, admits_text}
use Rattle.audit_model.specs.Closures.{reached, most_hops, most_after}
use Rattle.audit_model.specs.Models.{instance_at}
use Rattle.audit_model.specs.Facets.{entity_holds}
use Rattle.audit_model.specs.Paths.{types, forward_by, material_attributes, above}
use Rattle.audit_model.specs.Verdicts.{weigh}
use Rattle.audit_model.proofs.ClosureLaws.{IsClosed, stays_closed}
use Rattle.audit_model.proofs.Rows.{absent, enumeration_value, fold_text, fold_ref, fold_absent, fold_enumeration, fold_list, fold_typed, keyword_typed}
use Rattle.restrictions.specs.declared.condition.Condition.TheVariants.{Simple}

-- Two walls of one type. The first is a SOLIDWALL by itself, the second, which is NOTDEFINED, a PARTITIONING by its type.
abbrev kind_entities : Schema
kind_entities =
    record { name = codes "IFCROOT"; parent = None; is_abstract = true; own = codes "GlobalId" ∷ codes "OwnerHistory" ∷ codes "Name" ∷ codes "Description" ∷ []; derived = [] }
    ∷ record { name = codes "IFCOBJECTDEFINITION"; parent = Some (codes "IFCROOT"); is_abstract = true; own = []; derived = [] }
    ∷ record { name = codes "IFCOBJECT"; parent = Some (codes "IFCOBJECTDEFINITION"); is_abstract = true; own = codes "ObjectType" ∷ []; derived = [] }
    ∷ record { name = codes "IFCPRODUCT"; parent = Some (codes "IFCOBJECT"); is_abstract = true; own = codes "ObjectPlacement" ∷ codes "Representation" ∷ []; derived = [] }
    ∷ record { name = codes "IFCELEMENT"; parent = Some (codes "IFCPRODUCT"); is_abstract = true; own = codes "Tag" ∷ []; derived = [] }
    ∷ record { name = codes "IFCWALL"; parent = Some (codes "IFCELEMENT"); is_abstract = false; own = codes "PredefinedType" ∷ []; derived = [] }
    ∷ record { name = codes "IFCTYPEOBJECT"; parent = Some (codes "IFCOBJECTDEFINITION"); is_abstract = false; own = codes "ApplicableOccurrence" ∷ codes "HasPropertySets" ∷ []; derived = [] }
    ∷ record { name = codes "IFCWALLTYPE"; parent = Some (codes "IFCTYPEOBJECT"); is_abstract = false; own = codes "RepresentationMaps" ∷ codes "Tag" ∷ codes "ElementType" ∷ codes "PredefinedType" ∷ []; derived = [] }
    ∷ record { name = codes "IFCRELATIONSHIP"; parent = Some (codes "IFCROOT"); is_abstract = true; own = []; derived = [] }
    ∷ record { name = codes "IFCRELDEFINESBYTYPE"; parent = Some (codes "IFCRELATIONSHIP"); is_abstract = false; own = codes "RelatedObjects" ∷ codes "RelatingType" ∷ []; derived = [] }
    ∷ []

abbrev kind_model : List Instance
kind_model =
    record { id = 10; entity = codes "IFCWALL"; params = text_value (codes "0000000000000000000010") ∷ ref_value 5 ∷ text_value (codes "W01") ∷ absent ∷ absent ∷ absent ∷ absent ∷ text_value (codes "T1") ∷ enumeration_value (codes "SOLIDWALL") ∷ [] }
    ∷ record { id = 11; entity = codes "IFCWALL"; params = text_value (codes "0000000000000000000011") ∷ ref_value 5 ∷ text_value (codes "W011") ∷ absent ∷ absent ∷ absent ∷ absent ∷ text_value [] ∷ enumeration_value (codes "NOTDEFINED") ∷ [] }
    ∷ record { id = 12; entity = codes "IFCWALLTYPE"; params = text_value (codes "0000000000000000000012") ∷ ref_value 5 ∷ text_value (codes "Type A") ∷ absent ∷ absent ∷ list_value (ref_value 20 ∷ []) ∷ absent ∷ absent ∷ absent ∷ enumeration_value (codes "PARTITIONING") ∷ [] }
    ∷ record { id = 13; entity = codes "IFCRELDEFINESBYTYPE"; params = text_value (codes "0000000000000000000013") ∷ ref_value 5 ∷ absent ∷ absent ∷ list_value (ref_value 10 ∷ ref_value 11 ∷ []) ∷ ref_value 12 ∷ [] }
    ∷ []

first_kind : ((weigh kind_entities (Entity (record { name = Simple (codes "IFCWALL"); predefined = Some (Simple (codes "SOLIDWALL")) })) 10).answer (sight kind_entities kind_model)).holds ≡ true
unfolding is_kind_of place_of attributes admits_text admits
first_kind = refl

second_types : (types kind_entities 11).answer (sight kind_entities kind_model) ≡ 12 ∷ []
unfolding is_kind_of place_of attributes
second_types = simp (fold_ref, fold_list) refl

second_kind : ((weigh kind_entities (Entity (record { name = Simple (codes "IFCWALL"); predefined = Some (Simple (codes "SOLIDWALL")) })) 11).answer (sight kind_entities kind_model)).holds ≡ false
unfolding is_kind_of place_of attributes admits_text admits
second_kind = ap (λ ids. entity_holds kind_entities (record { name = Simple (codes "IFCWALL"); predefined = Some (Simple (codes "SOLIDWALL")) }) (record { itself = instance_at 11 kind_model; types = map (λ id. instance_at id kind_model) ids })) second_types

first_name : ((weigh kind_entities (Attribute (record { name = Simple (codes "Name"); value = Some (Simple (codes "W01")) })) 10).answer (sight kind_entities kind_model)).holds ≡ true
unfolding is_kind_of place_of attributes admits_text admits
first_name = simp (fold_text, fold_ref, fold_absent, fold_enumeration, fold_list, fold_typed, keyword_typed) refl

second_name : ((weigh kind_entities (Attribute (record { name = Simple (codes "Name"); value = Some (Simple (codes "W01")) })) 11).answer (sight kind_entities kind_model)).holds ≡ false
unfolding is_kind_of place_of attributes admits_text admits
second_name = simp (fold_text, fold_ref, fold_absent, fold_enumeration, fold_list, fold_typed, keyword_typed) refl

-- A quantity of the first wall.
abbrev quantity_entities : Schema
quantity_entities =
    record { name = codes "IFCROOT"; parent = None; is_abstract = true; own = codes "GlobalId" ∷ codes "OwnerHistory" ∷ codes "Name" ∷ codes "Description" ∷ []; derived = [] }
    ∷ record { name = codes "IFCOBJECTDEFINITION"; parent = Some (codes "IFCROOT"); is_abstract = true; own = []; derived = [] }
    ∷ record { name = codes "IFCOBJECT"; parent = Some (codes "IFCOBJECTDEFINITION"); is_abstract = true; own = codes "ObjectType" ∷ []; derived = [] }
    ∷ record { name = codes "IFCPRODUCT"; parent = Some (codes "IFCOBJECT"); is_abstract = true; own = codes "ObjectPlacement" ∷ codes "Representation" ∷ []; derived = [] }
    ∷ record { name = codes "IFCELEMENT"; parent = Some (codes "IFCPRODUCT"); is_abstract = true; own = codes "Tag" ∷ []; derived = [] }
    ∷ record { name = codes "IFCWALL"; parent = Some (codes "IFCELEMENT"); is_abstract = false; own = codes "PredefinedType" ∷ []; derived = [] }
    ∷ record { name = codes "IFCRELATIONSHIP"; parent = Some (codes "IFCROOT"); is_abstract = true; own = []; derived = [] }
    ∷ record { name = codes "IFCRELDEFINESBYPROPERTIES"; parent = Some (codes "IFCRELATIONSHIP"); is_abstract = false; own = codes "RelatedObjects" ∷ codes "RelatingPropertyDefinition" ∷ []; derived = [] }
    ∷ record { name = codes "IFCRELDEFINESBYTYPE"; parent = Some (codes "IFCRELATIONSHIP"); is_abstract = false; own = codes "RelatedObjects" ∷ codes "RelatingType" ∷ []; derived = [] }
    ∷ record { name = codes "IFCELEMENTQUANTITY"; parent = Some (codes "IFCROOT"); is_abstract = false; own = codes "MethodOfMeasurement" ∷ codes "Quantities" ∷ []; derived = [] }
    ∷ record { name = codes "IFCQUANTITYLENGTH"; parent = None; is_abstract = false; own = codes "Name" ∷ codes "Description" ∷ codes "Unit" ∷ codes "LengthValue" ∷ codes "Formula" ∷ []; derived = [] }
    ∷ []

abbrev quantity_model : List Instance
quantity_model =
    record { id = 10; entity = codes "IFCWALL"; params = text_value (codes "0000000000000000000010") ∷ ref_value 5 ∷ text_value (codes "W01") ∷ absent ∷ absent ∷ absent ∷ absent ∷ text_value (codes "T1") ∷ enumeration_value (codes "SOLIDWALL") ∷ [] }
    ∷ record { id = 11; entity = codes "IFCWALL"; params = text_value (codes "0000000000000000000011") ∷ ref_value 5 ∷ text_value (codes "W011") ∷ absent ∷ absent ∷ absent ∷ absent ∷ text_value [] ∷ enumeration_value (codes "NOTDEFINED") ∷ [] }
    ∷ record { id = 23; entity = codes "IFCELEMENTQUANTITY"; params = text_value (codes "0000000000000000000023") ∷ ref_value 5 ∷ text_value (codes "Qto_WallBaseQuantities") ∷ absent ∷ absent ∷ list_value (ref_value 24 ∷ []) ∷ [] }
    ∷ record { id = 24; entity = codes "IFCQUANTITYLENGTH"; params = text_value (codes "Length") ∷ absent ∷ absent ∷ text_value (codes "42") ∷ absent ∷ [] }
    ∷ record { id = 25; entity = codes "IFCRELDEFINESBYPROPERTIES"; params = text_value (codes "0000000000000000000025") ∷ ref_value 5 ∷ absent ∷ absent ∷ list_value (ref_value 10 ∷ []) ∷ ref_value 23 ∷ [] }
    ∷ []

first_length : ((weigh quantity_entities (Property (record { set = Simple (codes "Qto_WallBaseQuantities"); base_name = Simple (codes "Length"); kind = Some (codes "IFCLENGTHMEASURE"); value = Some (Simple (codes "42")) })) 10).answer (sight quantity_entities quantity_model)).holds ≡ true
unfolding is_kind_of place_of attributes admits_text admits
first_length = simp (fold_text, fold_ref, fold_absent, fold_enumeration, fold_list, fold_typed, keyword_typed) refl

second_length : ((weigh quantity_entities (Property (record { set = Simple (codes "Qto_WallBaseQuantities"); base_name = Simple (codes "Length"); kind = Some (codes "IFCLENGTHMEASURE"); value = Some (Simple (codes "42")) })) 11).answer (sight quantity_entities quantity_model)).holds ≡ false
unfolding is_kind_of place_of attributes admits_text admits
second_length = simp (fold_text, fold_ref, fold_absent, fold_enumeration, fold_list, fold_typed, keyword_typed) refl

-- A classification reference of the first wall, whose parent has the identification that is asked for.
abbrev classified_entities : Schema
classified_entities =
    record { name = codes "IFCROOT"; parent = None; is_abstract = true; own = codes "GlobalId" ∷ codes "OwnerHistory" ∷ codes "Name" ∷ codes "Description" ∷ []; derived = [] }
    ∷ record { name = codes "IFCOBJECTDEFINITION"; parent = Some (codes "IFCROOT"); is_abstract = true; own = []; derived = [] }
    ∷ record { name = codes "IFCOBJECT"; parent = Some (codes "IFCOBJECTDEFINITION"); is_abstract = true; own = codes "ObjectType" ∷ []; derived = [] }
    ∷ record { name = codes "IFCPRODUCT"; parent = Some (codes "IFCOBJECT"); is_abstract = true; own = codes "ObjectPlacement" ∷ codes "Representation" ∷ []; derived = [] }
    ∷ record { name = codes "IFCELEMENT"; parent = Some (codes "IFCPRODUCT"); is_abstract = true; own = codes "Tag" ∷ []; derived = [] }
    ∷ record { name = codes "IFCWALL"; parent = Some (codes "IFCELEMENT"); is_abstract = false; own = codes "PredefinedType" ∷ []; derived = [] }
    ∷ record { name = codes "IFCRELATIONSHIP"; parent = Some (codes "IFCROOT"); is_abstract = true; own = []; derived = [] }
    ∷ record { name = codes "IFCRELDEFINESBYTYPE"; parent = Some (codes "IFCRELATIONSHIP"); is_abstract = false; own = codes "RelatedObjects" ∷ codes "RelatingType" ∷ []; derived = [] }
    ∷ record { name = codes "IFCRELASSOCIATESCLASSIFICATION"; parent = Some (codes "IFCRELATIONSHIP"); is_abstract = false; own = codes "RelatedObjects" ∷ codes "RelatingClassification" ∷ []; derived = [] }
    ∷ record { name = codes "IFCCLASSIFICATION"; parent = None; is_abstract = false; own = codes "Source" ∷ codes "Edition" ∷ codes "EditionDate" ∷ codes "Name" ∷ codes "Description" ∷ codes "Location" ∷ codes "ReferenceTokens" ∷ []; derived = [] }
    ∷ record { name = codes "IFCCLASSIFICATIONREFERENCE"; parent = None; is_abstract = false; own = codes "Location" ∷ codes "Identification" ∷ codes "Name" ∷ codes "ReferencedSource" ∷ codes "Description" ∷ codes "Sort" ∷ []; derived = [] }
    ∷ []

abbrev classified_model : List Instance
classified_model =
    record { id = 10; entity = codes "IFCWALL"; params = text_value (codes "0000000000000000000010") ∷ ref_value 5 ∷ text_value (codes "W01") ∷ absent ∷ absent ∷ absent ∷ absent ∷ text_value (codes "T1") ∷ enumeration_value (codes "SOLIDWALL") ∷ [] }
    ∷ record { id = 11; entity = codes "IFCWALL"; params = text_value (codes "0000000000000000000011") ∷ ref_value 5 ∷ text_value (codes "W011") ∷ absent ∷ absent ∷ absent ∷ absent ∷ text_value [] ∷ enumeration_value (codes "NOTDEFINED") ∷ [] }
    ∷ record { id = 31; entity = codes "IFCCLASSIFICATION"; params = absent ∷ absent ∷ absent ∷ text_value (codes "Uniclass 2015") ∷ absent ∷ absent ∷ absent ∷ [] }
    ∷ record { id = 32; entity = codes "IFCCLASSIFICATIONREFERENCE"; params = absent ∷ text_value (codes "EF_25") ∷ absent ∷ ref_value 31 ∷ absent ∷ absent ∷ [] }
    ∷ record { id = 33; entity = codes "IFCCLASSIFICATIONREFERENCE"; params = absent ∷ text_value (codes "EF_25_10") ∷ absent ∷ ref_value 32 ∷ absent ∷ absent ∷ [] }
    ∷ record { id = 34; entity = codes "IFCRELASSOCIATESCLASSIFICATION"; params = text_value (codes "0000000000000000000034") ∷ ref_value 5 ∷ absent ∷ absent ∷ list_value (ref_value 10 ∷ []) ∷ ref_value 33 ∷ [] }
    ∷ []

-- A layer set usage of the first wall, whose one layer is of concrete.
abbrev layered_entities : Schema
layered_entities =
    record { name = codes "IFCROOT"; parent = None; is_abstract = true; own = codes "GlobalId" ∷ codes "OwnerHistory" ∷ codes "Name" ∷ codes "Description" ∷ []; derived = [] }
    ∷ record { name = codes "IFCOBJECTDEFINITION"; parent = Some (codes "IFCROOT"); is_abstract = true; own = []; derived = [] }
    ∷ record { name = codes "IFCOBJECT"; parent = Some (codes "IFCOBJECTDEFINITION"); is_abstract = true; own = codes "ObjectType" ∷ []; derived = [] }
    ∷ record { name = codes "IFCPRODUCT"; parent = Some (codes "IFCOBJECT"); is_abstract = true; own = codes "ObjectPlacement" ∷ codes "Representation" ∷ []; derived = [] }
    ∷ record { name = codes "IFCELEMENT"; parent = Some (codes "IFCPRODUCT"); is_abstract = true; own = codes "Tag" ∷ []; derived = [] }
    ∷ record { name = codes "IFCWALL"; parent = Some (codes "IFCELEMENT"); is_abstract = false; own = codes "PredefinedType" ∷ []; derived = [] }
    ∷ record { name = codes "IFCRELATIONSHIP"; parent = Some (codes "IFCROOT"); is_abstract = true; own = []; derived = [] }
    ∷ record { name = codes "IFCRELDEFINESBYTYPE"; parent = Some (codes "IFCRELATIONSHIP"); is_abstract = false; own = codes "RelatedObjects" ∷ codes "RelatingType" ∷ []; derived = [] }
    ∷ record { name = codes "IFCRELASSOCIATESMATERIAL"; parent = Some (codes "IFCRELATIONSHIP"); is_abstract = false; own = codes "RelatedObjects" ∷ codes "RelatingMaterial" ∷ []; derived = [] }
    ∷ record { name = codes "IFCMATERIAL"; parent = None; is_abstract = false; own = codes "Name" ∷ codes "Description" ∷ codes "Category" ∷ []; derived = [] }
    ∷ record { name = codes "IFCMATERIALLAYER"; parent = None; is_abstract = false; own = codes "Material" ∷ codes "LayerThickness" ∷ codes "IsVentilated" ∷ codes "Name" ∷ codes "Description" ∷ codes "Category" ∷ codes "Priority" ∷ []; derived = [] }
    ∷ record { name = codes "IFCMATERIALLAYERSET"; parent = None; is_abstract = false; own = codes "MaterialLayers" ∷ codes "LayerSetName" ∷ codes "Description" ∷ []; derived = [] }
    ∷ record { name = codes "IFCMATERIALLAYERSETUSAGE"; parent = None; is_abstract = false; own = codes "ForLayerSet" ∷ codes "LayerSetDirection" ∷ codes "DirectionSense" ∷ codes "OffsetFromReferenceLine" ∷ codes "ReferenceExtent" ∷ []; derived = [] }
    ∷ []

abbrev layered_model : List Instance
layered_model =
    record { id = 10; entity = codes "IFCWALL"; params = text_value (codes "0000000000000000000010") ∷ ref_value 5 ∷ text_value (codes "W01") ∷ absent ∷ absent ∷ absent ∷ absent ∷ text_value (codes "T1") ∷ enumeration_value (codes "SOLIDWALL") ∷ [] }
    ∷ record { id = 11; entity = codes "IFCWALL"; params = text_value (codes "0000000000000000000011") ∷ ref_value 5 ∷ text_value (codes "W011") ∷ absent ∷ absent ∷ absent ∷ absent ∷ text_value [] ∷ enumeration_value (codes "NOTDEFINED") ∷ [] }
    ∷ record { id = 26; entity = codes "IFCMATERIAL"; params = text_value (codes "Concrete") ∷ absent ∷ absent ∷ [] }
    ∷ record { id = 27; entity = codes "IFCMATERIALLAYER"; params = ref_value 26 ∷ absent ∷ absent ∷ absent ∷ absent ∷ absent ∷ absent ∷ [] }
    ∷ record { id = 28; entity = codes "IFCMATERIALLAYERSET"; params = list_value (ref_value 27 ∷ []) ∷ text_value (codes "Solid 200") ∷ absent ∷ [] }
    ∷ record { id = 29; entity = codes "IFCMATERIALLAYERSETUSAGE"; params = ref_value 28 ∷ enumeration_value (codes "AXIS2") ∷ enumeration_value (codes "POSITIVE") ∷ absent ∷ absent ∷ [] }
    ∷ record { id = 30; entity = codes "IFCRELASSOCIATESMATERIAL"; params = text_value (codes "0000000000000000000030") ∷ ref_value 5 ∷ absent ∷ absent ∷ list_value (ref_value 10 ∷ []) ∷ ref_value 29 ∷ [] }
    ∷ []

-- The first wall is contained in a storey.
abbrev stored_entities : Schema
stored_entities =
    record { name = codes "IFCROOT"; parent = None; is_abstract = true; own = codes "GlobalId" ∷ codes "OwnerHistory" ∷ codes "Name" ∷ codes "Description" ∷ []; derived = [] }
    ∷ record { name = codes "IFCOBJECTDEFINITION"; parent = Some (codes "IFCROOT"); is_abstract = true; own = []; derived = [] }
    ∷ record { name = codes "IFCOBJECT"; parent = Some (codes "IFCOBJECTDEFINITION"); is_abstract = true; own = codes "ObjectType" ∷ []; derived = [] }
    ∷ record { name = codes "IFCPRODUCT"; parent = Some (codes "IFCOBJECT"); is_abstract = true; own = codes "ObjectPlacement" ∷ codes "Representation" ∷ []; derived = [] }
    ∷ record { name = codes "IFCELEMENT"; parent = Some (codes "IFCPRODUCT"); is_abstract = true; own = codes "Tag" ∷ []; derived = [] }
    ∷ record { name = codes "IFCWALL"; parent = Some (codes "IFCELEMENT"); is_abstract = false; own = codes "PredefinedType" ∷ []; derived = [] }
    ∷ record { name = codes "IFCBUILDINGSTOREY"; parent = Some (codes "IFCPRODUCT"); is_abstract = false; own = codes "LongName" ∷ codes "CompositionType" ∷ codes "Elevation" ∷ []; derived = [] }
    ∷ record { name = codes "IFCRELATIONSHIP"; parent = Some (codes "IFCROOT"); is_abstract = true; own = []; derived = [] }
    ∷ record { name = codes "IFCRELDEFINESBYTYPE"; parent = Some (codes "IFCRELATIONSHIP"); is_abstract = false; own = codes "RelatedObjects" ∷ codes "RelatingType" ∷ []; derived = [] }
    ∷ record { name = codes "IFCRELCONTAINEDINSPATIALSTRUCTURE"; parent = Some (codes "IFCRELATIONSHIP"); is_abstract = false; own = codes "RelatedElements" ∷ codes "RelatingStructure" ∷ []; derived = [] }
    ∷ []

abbrev stored_model : List Instance
stored_model =
    record { id = 9; entity = codes "IFCBUILDINGSTOREY"; params = text_value (codes "0000000000000000000009") ∷ ref_value 5 ∷ text_value (codes "Ground") ∷ absent ∷ absent ∷ absent ∷ absent ∷ absent ∷ enumeration_value (codes "ELEMENT") ∷ absent ∷ [] }
    ∷ record { id = 10; entity = codes "IFCWALL"; params = text_value (codes "0000000000000000000010") ∷ ref_value 5 ∷ text_value (codes "W01") ∷ absent ∷ absent ∷ absent ∷ absent ∷ text_value (codes "T1") ∷ enumeration_value (codes "SOLIDWALL") ∷ [] }
    ∷ record { id = 11; entity = codes "IFCWALL"; params = text_value (codes "0000000000000000000011") ∷ ref_value 5 ∷ text_value (codes "W011") ∷ absent ∷ absent ∷ absent ∷ absent ∷ text_value [] ∷ enumeration_value (codes "NOTDEFINED") ∷ [] }
    ∷ record { id = 15; entity = codes "IFCRELCONTAINEDINSPATIALSTRUCTURE"; params = text_value (codes "0000000000000000000015") ∷ ref_value 5 ∷ absent ∷ absent ∷ list_value (ref_value 10 ∷ []) ∷ ref_value 9 ∷ [] }
    ∷ []

classified_closed : IsClosed (forward_by classified_entities (codes "ReferencedSource" ∷ [])) (sight classified_entities classified_model) (31 ∷ 32 ∷ 33 ∷ [])
unfolding is_kind_of place_of attributes
classified_closed = simp (fold_text, fold_ref, fold_absent, fold_enumeration, fold_list, fold_typed, keyword_typed) refl

classified_rounds : (reached (forward_by classified_entities (codes "ReferencedSource" ∷ [])) 2 (33 ∷ [])).answer (sight classified_entities classified_model) ≡ 31 ∷ 32 ∷ 33 ∷ []
unfolding is_kind_of place_of attributes reached
classified_rounds = simp (fold_text, fold_ref, fold_absent, fold_enumeration, fold_list, fold_typed, keyword_typed) refl

classified_all : (reached (forward_by classified_entities (codes "ReferencedSource" ∷ [])) most_hops (33 ∷ [])).answer (sight classified_entities classified_model) ≡ 31 ∷ 32 ∷ 33 ∷ []
unfolding most_hops most_after
classified_all = stays_closed (forward_by classified_entities (codes "ReferencedSource" ∷ [])) (sight classified_entities classified_model) (33 ∷ []) 2 (31 ∷ 32 ∷ 33 ∷ []) classified_rounds classified_closed most_hops (lit≤ tt)

layered_closed : IsClosed (forward_by layered_entities material_attributes) (sight layered_entities layered_model) (26 ∷ 27 ∷ 28 ∷ 29 ∷ [])
unfolding is_kind_of place_of attributes
layered_closed = simp (fold_text, fold_ref, fold_absent, fold_enumeration, fold_list, fold_typed, keyword_typed) refl

layered_rounds : (reached (forward_by layered_entities material_attributes) 3 (29 ∷ [])).answer (sight layered_entities layered_model) ≡ 26 ∷ 27 ∷ 28 ∷ 29 ∷ []
unfolding is_kind_of place_of attributes reached
layered_rounds = simp (fold_text, fold_ref, fold_absent, fold_enumeration, fold_list, fold_typed, keyword_typed) refl

layered_all : (reached (forward_by layered_entities material_attributes) most_hops (29 ∷ [])).answer (sight layered_entities layered_model) ≡ 26 ∷ 27 ∷ 28 ∷ 29 ∷ []
unfolding most_hops most_after
layered_all = stays_closed (forward_by layered_entities material_attributes) (sight layered_entities layered_model) (29 ∷ []) 3 (26 ∷ 27 ∷ 28 ∷ 29 ∷ []) layered_rounds layered_closed most_hops (lit≤ tt)

stored_closed : IsClosed (above stored_entities (role.Contained ∷ [])) (sight stored_entities stored_model) (9 ∷ [])
unfolding is_kind_of place_of attributes
stored_closed = simp (fold_text, fold_ref, fold_absent, fold_enumeration, fold_list, fold_typed, keyword_typed) refl

stored_rounds : (reached (above stored_entities (role.Contained ∷ [])) 0 (9 ∷ [])).answer (sight stored_entities stored_model) ≡ 9 ∷ []
unfolding is_kind_of place_of attributes reached
stored_rounds = refl

stored_all : (reached (above stored_entities (role.Contained ∷ [])) most_after (9 ∷ [])).answer (sight stored_entities stored_model) ≡ 9 ∷ []
unfolding most_hops most_after
stored_all = stays_closed (above stored_entities (role.Contained ∷ [])) (sight stored_entities stored_model) (9 ∷ []) 0 (9 ∷ []) stored_rounds stored_closed most_after (lit≤ tt)

nothing_reached : (reached (forward_by layered_entities material_attributes) most_hops []).answer (sight layered_entities layered_model) ≡ []
unfolding most_hops reached
nothing_reached = stays_closed (forward_by layered_entities material_attributes) (sight layered_entities layered_model) [] 0 [] refl refl most_hops (lit≤ tt)

nothing_above : (reached (above stored_entities (role.Contained ∷ [])) most_after []).answer (sight stored_entities stored_model) ≡ []
unfolding most_after reached
nothing_above = stays_closed (above stored_entities (role.Contained ∷ [])) (sight stored_entities stored_model) [] 0 [] refl refl most_after (lit≤ tt)

first_class : ((weigh classified_entities (Classification (record { system = Some (Simple (codes "Uniclass 2015")); value = Some (Simple (codes "EF_25")) })) 10).answer (sight classified_entities classified_model)).holds ≡ true
unfolding is_kind_of place_of attributes admits_text admits
first_class = simp (fold_text, fold_ref, fold_absent, fold_enumeration, fold_list, fold_typed, keyword_typed, classified_all) refl

second_class : ((weigh classified_entities (Classification (record { system = Some (Simple (codes "Uniclass 2015")); value = Some (Simple (codes "EF_25")) })) 11).answer (sight classified_entities classified_model)).holds ≡ false
unfolding is_kind_of place_of attributes admits_text admits
second_class = simp (fold_text, fold_ref, fold_absent, fold_enumeration, fold_list, fold_typed, keyword_typed, classified_all) refl

first_material : ((weigh layered_entities (Material (record { value = Some (Simple (codes "Concrete")) })) 10).answer (sight layered_entities layered_model)).holds ≡ true
unfolding is_kind_of place_of attributes admits_text admits
first_material = simp (fold_text, fold_ref, fold_absent, fold_enumeration, fold_list, fold_typed, keyword_typed, layered_all) refl

second_material : ((weigh layered_entities (Material (record { value = Some (Simple (codes "Concrete")) })) 11).answer (sight layered_entities layered_model)).holds ≡ false
unfolding is_kind_of place_of attributes admits_text admits
second_material = simp (fold_text, fold_ref, fold_absent, fold_enumeration, fold_list, fold_typed, keyword_typed, nothing_reached) refl

first_part : ((weigh stored_entities (PartOf (record { relation = relation.Contained; entity = Some (record { name = Simple (codes "IFCBUILDINGSTOREY"); predefined = None }) })) 10).answer (sight stored_entities stored_model)).holds ≡ true
unfolding is_kind_of place_of attributes admits_text admits
first_part = simp (fold_text, fold_ref, fold_absent, fold_enumeration, fold_list, fold_typed, keyword_typed, stored_all) refl

second_part : ((weigh stored_entities (PartOf (record { relation = relation.Contained; entity = Some (record { name = Simple (codes "IFCBUILDINGSTOREY"); predefined = None }) })) 11).answer (sight stored_entities stored_model)).holds ≡ false
unfolding is_kind_of place_of attributes admits_text admits
second_part = simp (fold_text, fold_ref, fold_absent, fold_enumeration, fold_list, fold_typed, keyword_typed, nothing_above) refl
