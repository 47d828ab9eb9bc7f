-- The declarations and the model of the worked rows, and what the definitions say of them.
use Rattle.std.proofs.Common.{◌≡◌, ℕ, true, false, List, [], ◌∷◌, Some, None, map, codes, rules}
use Rattle.ifc_base.specs.declared.value.Instance.{Instance}
use Rattle.ifc_base.specs.declared.value.Value.{Value}
use Rattle.ifc_base.specs.declared.value.ValueNode.TheVariants as node
use Rattle.ifc_base.specs.declared.value.ValueNode.{the_lemmas}
use Rattle.ifc_base.specs.declared.value.ValueNode.TheOpen.{ValueNode-F}
use Rattle.ifc_base.specs.Tree.{Level, fold_value, text_value, ref_value, list_value, typed_value}
use Rattle.schema_table.specs.Schema.{Schema}
use Rattle.schema_table.specs.Values.{data_type}

abbrev pub absent : Value
absent = record { node = node.Absent }

abbrev pub enumeration_value : List ℕ → Value
enumeration_value name = record { node = node.Enumer name }

abbrev pub omitted : Value
omitted = record { node = node.Derived }

abbrev pub declared_entities : Schema
declared_entities =
    record { name = codes "IFCROOT"; parent = None; is_abstract = true; own = codes "GlobalId" ∷ codes "OwnerHistory" ∷ codes "Name" ∷ codes "Description" ∷ []; derived = [] }
    ∷ record { name = codes "IFCOBJECTDEFINITION"; parent = Some (codes "IFCROOT"); is_abstract = true; own = []; derived = [] }
    ∷ record { name = codes "IFCOBJECT"; parent = Some (codes "IFCOBJECTDEFINITION"); is_abstract = true; own = codes "ObjectType" ∷ []; derived = [] }
    ∷ record { name = codes "IFCPRODUCT"; parent = Some (codes "IFCOBJECT"); is_abstract = true; own = codes "ObjectPlacement" ∷ codes "Representation" ∷ []; derived = [] }
    ∷ record { name = codes "IFCELEMENT"; parent = Some (codes "IFCPRODUCT"); is_abstract = true; own = codes "Tag" ∷ []; derived = [] }
    ∷ record { name = codes "IFCWALL"; parent = Some (codes "IFCELEMENT"); is_abstract = false; own = codes "PredefinedType" ∷ []; derived = [] }
    ∷ record { name = codes "IFCWALLSTANDARDCASE"; parent = Some (codes "IFCWALL"); is_abstract = false; own = []; derived = [] }
    ∷ record { name = codes "IFCBUILDINGSTOREY"; parent = Some (codes "IFCPRODUCT"); is_abstract = false; own = codes "LongName" ∷ codes "CompositionType" ∷ codes "Elevation" ∷ []; derived = [] }
    ∷ record { name = codes "IFCGROUP"; parent = Some (codes "IFCOBJECT"); is_abstract = false; own = []; derived = [] }
    ∷ record { name = codes "IFCPROJECT"; parent = Some (codes "IFCOBJECTDEFINITION"); is_abstract = false; own = codes "ObjectType" ∷ codes "LongName" ∷ codes "Phase" ∷ codes "RepresentationContexts" ∷ codes "UnitsInContext" ∷ []; derived = [] }
    ∷ record { name = codes "IFCTYPEOBJECT"; parent = Some (codes "IFCOBJECTDEFINITION"); is_abstract = false; own = codes "ApplicableOccurrence" ∷ codes "HasPropertySets" ∷ []; derived = [] }
    ∷ record { name = codes "IFCWALLTYPE"; parent = Some (codes "IFCTYPEOBJECT"); is_abstract = false; own = codes "RepresentationMaps" ∷ codes "Tag" ∷ codes "ElementType" ∷ codes "PredefinedType" ∷ []; derived = [] }
    ∷ record { name = codes "IFCRELATIONSHIP"; parent = Some (codes "IFCROOT"); is_abstract = true; own = []; derived = [] }
    ∷ record { name = codes "IFCRELDEFINESBYPROPERTIES"; parent = Some (codes "IFCRELATIONSHIP"); is_abstract = false; own = codes "RelatedObjects" ∷ codes "RelatingPropertyDefinition" ∷ []; derived = [] }
    ∷ record { name = codes "IFCRELDEFINESBYTYPE"; parent = Some (codes "IFCRELATIONSHIP"); is_abstract = false; own = codes "RelatedObjects" ∷ codes "RelatingType" ∷ []; derived = [] }
    ∷ record { name = codes "IFCRELASSOCIATESCLASSIFICATION"; parent = Some (codes "IFCRELATIONSHIP"); is_abstract = false; own = codes "RelatedObjects" ∷ codes "RelatingClassification" ∷ []; derived = [] }
    ∷ record { name = codes "IFCRELASSOCIATESMATERIAL"; parent = Some (codes "IFCRELATIONSHIP"); is_abstract = false; own = codes "RelatedObjects" ∷ codes "RelatingMaterial" ∷ []; derived = [] }
    ∷ record { name = codes "IFCRELAGGREGATES"; parent = Some (codes "IFCRELATIONSHIP"); is_abstract = false; own = codes "RelatingObject" ∷ codes "RelatedObjects" ∷ []; derived = [] }
    ∷ record { name = codes "IFCRELCONTAINEDINSPATIALSTRUCTURE"; parent = Some (codes "IFCRELATIONSHIP"); is_abstract = false; own = codes "RelatedElements" ∷ codes "RelatingStructure" ∷ []; derived = [] }
    ∷ record { name = codes "IFCRELASSIGNSTOGROUP"; parent = Some (codes "IFCRELATIONSHIP"); is_abstract = false; own = codes "RelatedObjects" ∷ codes "RelatedObjectsType" ∷ codes "RelatingGroup" ∷ []; derived = [] }
    ∷ record { name = codes "IFCPROPERTYSET"; parent = Some (codes "IFCROOT"); is_abstract = false; own = codes "HasProperties" ∷ []; derived = [] }
    ∷ record { name = codes "IFCELEMENTQUANTITY"; parent = Some (codes "IFCROOT"); is_abstract = false; own = codes "MethodOfMeasurement" ∷ codes "Quantities" ∷ []; derived = [] }
    ∷ record { name = codes "IFCPROPERTYSINGLEVALUE"; parent = None; is_abstract = false; own = codes "Name" ∷ codes "Description" ∷ codes "NominalValue" ∷ codes "Unit" ∷ []; derived = [] }
    ∷ record { name = codes "IFCQUANTITYLENGTH"; parent = None; is_abstract = false; own = codes "Name" ∷ codes "Description" ∷ codes "Unit" ∷ codes "LengthValue" ∷ codes "Formula" ∷ []; derived = [] }
    ∷ record { name = codes "IFCMATERIAL"; parent = None; is_abstract = false; own = codes "Name" ∷ codes "Description" ∷ codes "Category" ∷ []; derived = [] }
    ∷ record { name = codes "IFCMATERIALLAYER"; parent = None; is_abstract = false; own = codes "Material" ∷ codes "LayerThickness" ∷ codes "IsVentilated" ∷ codes "Name" ∷ codes "Description" ∷ codes "Category" ∷ codes "Priority" ∷ []; derived = [] }
    ∷ record { name = codes "IFCMATERIALLAYERSET"; parent = None; is_abstract = false; own = codes "MaterialLayers" ∷ codes "LayerSetName" ∷ codes "Description" ∷ []; derived = [] }
    ∷ record { name = codes "IFCMATERIALLAYERSETUSAGE"; parent = None; is_abstract = false; own = codes "ForLayerSet" ∷ codes "LayerSetDirection" ∷ codes "DirectionSense" ∷ codes "OffsetFromReferenceLine" ∷ codes "ReferenceExtent" ∷ []; derived = [] }
    ∷ record { name = codes "IFCCLASSIFICATION"; parent = None; is_abstract = false; own = codes "Source" ∷ codes "Edition" ∷ codes "EditionDate" ∷ codes "Name" ∷ codes "Description" ∷ codes "Location" ∷ codes "ReferenceTokens" ∷ []; derived = [] }
    ∷ record { name = codes "IFCCLASSIFICATIONREFERENCE"; parent = None; is_abstract = false; own = codes "Location" ∷ codes "Identification" ∷ codes "Name" ∷ codes "ReferencedSource" ∷ codes "Description" ∷ codes "Sort" ∷ []; derived = [] }
    ∷ record { name = codes "IFCPERSON"; parent = None; is_abstract = false; own = codes "Identification" ∷ codes "FamilyName" ∷ codes "GivenName" ∷ codes "MiddleNames" ∷ codes "PrefixTitles" ∷ codes "SuffixTitles" ∷ codes "Roles" ∷ codes "Addresses" ∷ []; derived = [] }
    ∷ record { name = codes "IFCORGANIZATION"; parent = None; is_abstract = false; own = codes "Identification" ∷ codes "Name" ∷ codes "Description" ∷ codes "Roles" ∷ codes "Addresses" ∷ []; derived = [] }
    ∷ record { name = codes "IFCPERSONANDORGANIZATION"; parent = None; is_abstract = false; own = codes "ThePerson" ∷ codes "TheOrganization" ∷ codes "Roles" ∷ []; derived = [] }
    ∷ record { name = codes "IFCAPPLICATION"; parent = None; is_abstract = false; own = codes "ApplicationDeveloper" ∷ codes "Version" ∷ codes "ApplicationFullName" ∷ codes "ApplicationIdentifier" ∷ []; derived = [] }
    ∷ record { name = codes "IFCOWNERHISTORY"; parent = None; is_abstract = false; own = codes "OwningUser" ∷ codes "OwningApplication" ∷ codes "State" ∷ codes "ChangeAction" ∷ codes "LastModifiedDate" ∷ codes "LastModifyingUser" ∷ codes "LastModifyingApplication" ∷ codes "CreationDate" ∷ []; derived = [] }
    ∷ record { name = codes "IFCNAMEDUNIT"; parent = None; is_abstract = true; own = codes "Dimensions" ∷ codes "UnitType" ∷ []; derived = [] }
    ∷ record { name = codes "IFCSIUNIT"; parent = Some (codes "IFCNAMEDUNIT"); is_abstract = false; own = codes "Prefix" ∷ codes "Name" ∷ []; derived = codes "Dimensions" ∷ [] }
    ∷ record { name = codes "IFCUNITASSIGNMENT"; parent = None; is_abstract = false; own = codes "Units" ∷ []; derived = [] }
    ∷ []

abbrev pub two_groups : List Instance
two_groups =
    record { id = 50; entity = codes "IFCGROUP"; params = text_value (codes "a") ∷ absent ∷ absent ∷ absent ∷ absent ∷ [] }
    ∷ record { id = 51; entity = codes "IFCGROUP"; params = text_value (codes "b") ∷ absent ∷ absent ∷ absent ∷ absent ∷ [] }
    ∷ record { id = 52; entity = codes "IFCRELASSIGNSTOGROUP"; params = text_value (codes "c") ∷ absent ∷ absent ∷ absent ∷ list_value (ref_value 50 ∷ []) ∷ absent ∷ ref_value 51 ∷ [] }
    ∷ record { id = 53; entity = codes "IFCRELASSIGNSTOGROUP"; params = text_value (codes "d") ∷ absent ∷ absent ∷ absent ∷ list_value (ref_value 51 ∷ []) ∷ absent ∷ ref_value 50 ∷ [] }
    ∷ []

-- the model of six facets, its numbers but one left out and that one a text
abbrev pub walls_and_storey : List Instance
walls_and_storey =
    record { id = 1; entity = codes "IFCPERSON"; params = absent ∷ text_value (codes "Doe") ∷ absent ∷ absent ∷ absent ∷ absent ∷ absent ∷ absent ∷ [] }
    ∷ record { id = 2; entity = codes "IFCORGANIZATION"; params = absent ∷ text_value (codes "Office") ∷ absent ∷ absent ∷ absent ∷ [] }
    ∷ record { id = 3; entity = codes "IFCPERSONANDORGANIZATION"; params = ref_value 1 ∷ ref_value 2 ∷ absent ∷ [] }
    ∷ record { id = 4; entity = codes "IFCAPPLICATION"; params = ref_value 2 ∷ text_value (codes "1.0") ∷ text_value (codes "Modeller") ∷ text_value (codes "MOD") ∷ [] }
    ∷ record { id = 5; entity = codes "IFCOWNERHISTORY"; params = ref_value 3 ∷ ref_value 4 ∷ absent ∷ enumeration_value (codes "NOCHANGE") ∷ absent ∷ absent ∷ absent ∷ absent ∷ [] }
    ∷ record { id = 6; entity = codes "IFCSIUNIT"; params = omitted ∷ enumeration_value (codes "LENGTHUNIT") ∷ absent ∷ enumeration_value (codes "METRE") ∷ [] }
    ∷ record { id = 7; entity = codes "IFCUNITASSIGNMENT"; params = list_value (ref_value 6 ∷ []) ∷ [] }
    ∷ record { id = 8; entity = codes "IFCPROJECT"; params = text_value (codes "0000000000000000000008") ∷ ref_value 5 ∷ text_value (codes "Demo") ∷ absent ∷ absent ∷ absent ∷ absent ∷ absent ∷ ref_value 7 ∷ [] }
    ∷ record { id = 9; entity = codes "IFCBUILDINGSTOREY"; params = text_value (codes "0000000000000000000009") ∷ ref_value 5 ∷ text_value (codes "Ground") ∷ absent ∷ absent ∷ absent ∷ absent ∷ absent ∷ enumeration_value (codes "ELEMENT") ∷ absent ∷ [] }
    ∷ record { id = 10; entity = codes "IFCWALL"; params = text_value (codes "0000000000000000000010") ∷ ref_value 5 ∷ text_value (codes "W01") ∷ absent ∷ absent ∷ absent ∷ absent ∷ text_value (codes "T1") ∷ enumeration_value (codes "SOLIDWALL") ∷ [] }
    ∷ record { id = 11; entity = codes "IFCWALL"; params = text_value (codes "0000000000000000000011") ∷ ref_value 5 ∷ text_value (codes "W011") ∷ absent ∷ absent ∷ absent ∷ absent ∷ text_value [] ∷ enumeration_value (codes "NOTDEFINED") ∷ [] }
    ∷ record { id = 12; entity = codes "IFCWALLTYPE"; params = text_value (codes "0000000000000000000012") ∷ ref_value 5 ∷ text_value (codes "Type A") ∷ absent ∷ absent ∷ list_value (ref_value 20 ∷ []) ∷ absent ∷ absent ∷ absent ∷ enumeration_value (codes "PARTITIONING") ∷ [] }
    ∷ record { id = 13; entity = codes "IFCRELDEFINESBYTYPE"; params = text_value (codes "0000000000000000000013") ∷ ref_value 5 ∷ absent ∷ absent ∷ list_value (ref_value 10 ∷ ref_value 11 ∷ []) ∷ ref_value 12 ∷ [] }
    ∷ record { id = 14; entity = codes "IFCRELAGGREGATES"; params = text_value (codes "0000000000000000000014") ∷ ref_value 5 ∷ absent ∷ absent ∷ ref_value 8 ∷ list_value (ref_value 9 ∷ []) ∷ [] }
    ∷ record { id = 15; entity = codes "IFCRELCONTAINEDINSPATIALSTRUCTURE"; params = text_value (codes "0000000000000000000015") ∷ ref_value 5 ∷ absent ∷ absent ∷ list_value (ref_value 10 ∷ []) ∷ ref_value 9 ∷ [] }
    ∷ record { id = 20; entity = codes "IFCPROPERTYSET"; params = text_value (codes "0000000000000000000020") ∷ ref_value 5 ∷ text_value (codes "Pset_WallCommon") ∷ absent ∷ list_value (ref_value 21 ∷ ref_value 22 ∷ []) ∷ [] }
    ∷ record { id = 21; entity = codes "IFCPROPERTYSINGLEVALUE"; params = text_value (codes "FireRating") ∷ absent ∷ typed_value (codes "IFCLABEL") (text_value (codes "REI60")) ∷ absent ∷ [] }
    ∷ record { id = 22; entity = codes "IFCPROPERTYSINGLEVALUE"; params = text_value (codes "IsExternal") ∷ absent ∷ typed_value (codes "IFCBOOLEAN") (enumeration_value (codes "F")) ∷ absent ∷ [] }
    ∷ record { id = 23; entity = codes "IFCELEMENTQUANTITY"; params = text_value (codes "0000000000000000000023") ∷ ref_value 5 ∷ text_value (codes "Qto_WallBaseQuantities") ∷ absent ∷ absent ∷ list_value (ref_value 24 ∷ []) ∷ [] }
    ∷ record { id = 24; entity = codes "IFCQUANTITYLENGTH"; params = text_value (codes "Length") ∷ absent ∷ absent ∷ text_value (codes "42") ∷ absent ∷ [] }
    ∷ record { id = 25; entity = codes "IFCRELDEFINESBYPROPERTIES"; params = text_value (codes "0000000000000000000025") ∷ ref_value 5 ∷ absent ∷ absent ∷ list_value (ref_value 10 ∷ []) ∷ ref_value 23 ∷ [] }
    ∷ record { id = 26; entity = codes "IFCMATERIAL"; params = text_value (codes "Concrete") ∷ absent ∷ absent ∷ [] }
    ∷ record { id = 27; entity = codes "IFCMATERIALLAYER"; params = ref_value 26 ∷ absent ∷ absent ∷ absent ∷ absent ∷ absent ∷ absent ∷ [] }
    ∷ record { id = 28; entity = codes "IFCMATERIALLAYERSET"; params = list_value (ref_value 27 ∷ []) ∷ text_value (codes "Solid 200") ∷ absent ∷ [] }
    ∷ record { id = 29; entity = codes "IFCMATERIALLAYERSETUSAGE"; params = ref_value 28 ∷ enumeration_value (codes "AXIS2") ∷ enumeration_value (codes "POSITIVE") ∷ absent ∷ absent ∷ [] }
    ∷ record { id = 30; entity = codes "IFCRELASSOCIATESMATERIAL"; params = text_value (codes "0000000000000000000030") ∷ ref_value 5 ∷ absent ∷ absent ∷ list_value (ref_value 10 ∷ []) ∷ ref_value 29 ∷ [] }
    ∷ record { id = 31; entity = codes "IFCCLASSIFICATION"; params = absent ∷ absent ∷ absent ∷ text_value (codes "Uniclass 2015") ∷ absent ∷ absent ∷ absent ∷ [] }
    ∷ record { id = 32; entity = codes "IFCCLASSIFICATIONREFERENCE"; params = absent ∷ text_value (codes "EF_25") ∷ absent ∷ ref_value 31 ∷ absent ∷ absent ∷ [] }
    ∷ record { id = 33; entity = codes "IFCCLASSIFICATIONREFERENCE"; params = absent ∷ text_value (codes "EF_25_10") ∷ absent ∷ ref_value 32 ∷ absent ∷ absent ∷ [] }
    ∷ record { id = 34; entity = codes "IFCRELASSOCIATESCLASSIFICATION"; params = text_value (codes "0000000000000000000034") ∷ ref_value 5 ∷ absent ∷ absent ∷ list_value (ref_value 10 ∷ []) ∷ ref_value 33 ∷ [] }
    ∷ []

-- an own property of the first wall with the names of one of its type, in a new set by a new relationship
abbrev pub own_rating : List Instance
own_rating =
    record { id = 40; entity = codes "IFCPROPERTYSINGLEVALUE"; params = text_value (codes "FireRating") ∷ absent ∷ typed_value (codes "IFCLABEL") (text_value (codes "REI30")) ∷ absent ∷ [] }
    ∷ record { id = 41; entity = codes "IFCPROPERTYSET"; params = text_value (codes "s") ∷ absent ∷ text_value (codes "Pset_WallCommon") ∷ absent ∷ list_value (ref_value 40 ∷ []) ∷ [] }
    ∷ record { id = 42; entity = codes "IFCRELDEFINESBYPROPERTIES"; params = text_value (codes "r") ∷ absent ∷ absent ∷ absent ∷ list_value (ref_value 10 ∷ []) ∷ ref_value 41 ∷ [] }
    ∷ []

-- of the declarations, those of walls, their types and their properties
abbrev pub declared_properties : Schema
declared_properties =
    record { name = codes "IFCROOT"; parent = None; is_abstract = true; own = codes "GlobalId" ∷ codes "OwnerHistory" ∷ codes "Name" ∷ codes "Description" ∷ []; derived = [] }
    ∷ record { name = codes "IFCOBJECTDEFINITION"; parent = Some (codes "IFCROOT"); is_abstract = true; own = []; derived = [] }
    ∷ record { name = codes "IFCOBJECT"; parent = Some (codes "IFCOBJECTDEFINITION"); is_abstract = true; own = codes "ObjectType" ∷ []; derived = [] }
    ∷ record { name = codes "IFCPRODUCT"; parent = Some (codes "IFCOBJECT"); is_abstract = true; own = codes "ObjectPlacement" ∷ codes "Representation" ∷ []; derived = [] }
    ∷ record { name = codes "IFCELEMENT"; parent = Some (codes "IFCPRODUCT"); is_abstract = true; own = codes "Tag" ∷ []; derived = [] }
    ∷ record { name = codes "IFCWALL"; parent = Some (codes "IFCELEMENT"); is_abstract = false; own = codes "PredefinedType" ∷ []; derived = [] }
    ∷ record { name = codes "IFCTYPEOBJECT"; parent = Some (codes "IFCOBJECTDEFINITION"); is_abstract = false; own = codes "ApplicableOccurrence" ∷ codes "HasPropertySets" ∷ []; derived = [] }
    ∷ record { name = codes "IFCWALLTYPE"; parent = Some (codes "IFCTYPEOBJECT"); is_abstract = false; own = codes "RepresentationMaps" ∷ codes "Tag" ∷ codes "ElementType" ∷ codes "PredefinedType" ∷ []; derived = [] }
    ∷ record { name = codes "IFCRELATIONSHIP"; parent = Some (codes "IFCROOT"); is_abstract = true; own = []; derived = [] }
    ∷ record { name = codes "IFCRELDEFINESBYPROPERTIES"; parent = Some (codes "IFCRELATIONSHIP"); is_abstract = false; own = codes "RelatedObjects" ∷ codes "RelatingPropertyDefinition" ∷ []; derived = [] }
    ∷ record { name = codes "IFCRELDEFINESBYTYPE"; parent = Some (codes "IFCRELATIONSHIP"); is_abstract = false; own = codes "RelatedObjects" ∷ codes "RelatingType" ∷ []; derived = [] }
    ∷ record { name = codes "IFCPROPERTYSET"; parent = Some (codes "IFCROOT"); is_abstract = false; own = codes "HasProperties" ∷ []; derived = [] }
    ∷ record { name = codes "IFCPROPERTYSINGLEVALUE"; parent = None; is_abstract = false; own = codes "Name" ∷ codes "Description" ∷ codes "NominalValue" ∷ codes "Unit" ∷ []; derived = [] }
    ∷ []

-- of the model, a wall and its type with a property
abbrev pub rated_wall : List Instance
rated_wall =
    record { id = 10; entity = codes "IFCWALL"; params = text_value (codes "0000000000000000000010") ∷ ref_value 5 ∷ text_value (codes "W01") ∷ absent ∷ absent ∷ absent ∷ absent ∷ text_value (codes "T1") ∷ enumeration_value (codes "SOLIDWALL") ∷ [] }
    ∷ record { id = 12; entity = codes "IFCWALLTYPE"; params = text_value (codes "0000000000000000000012") ∷ ref_value 5 ∷ text_value (codes "Type A") ∷ absent ∷ absent ∷ list_value (ref_value 20 ∷ []) ∷ absent ∷ absent ∷ absent ∷ enumeration_value (codes "PARTITIONING") ∷ [] }
    ∷ record { id = 13; entity = codes "IFCRELDEFINESBYTYPE"; params = text_value (codes "0000000000000000000013") ∷ ref_value 5 ∷ absent ∷ absent ∷ list_value (ref_value 10 ∷ ref_value 11 ∷ []) ∷ ref_value 12 ∷ [] }
    ∷ record { id = 20; entity = codes "IFCPROPERTYSET"; params = text_value (codes "0000000000000000000020") ∷ ref_value 5 ∷ text_value (codes "Pset_WallCommon") ∷ absent ∷ list_value (ref_value 21 ∷ ref_value 22 ∷ []) ∷ [] }
    ∷ record { id = 21; entity = codes "IFCPROPERTYSINGLEVALUE"; params = text_value (codes "FireRating") ∷ absent ∷ typed_value (codes "IFCLABEL") (text_value (codes "REI60")) ∷ absent ∷ [] }
    ∷ []

-- Functions of values at each kind of value that stands there.

pub fold_text : {A : Type 0} (step : Level A → A) (text : List ℕ) → fold_value step (text_value text) ≡ step (ValueNode-F.Text text)
fold_text step text = search (rules, the_lemmas)

pub fold_ref : {A : Type 0} (step : Level A → A) (id : ℕ) → fold_value step (ref_value id) ≡ step (ValueNode-F.Ref id)
fold_ref step id = search (rules, the_lemmas)

pub fold_absent : {A : Type 0} (step : Level A → A) → fold_value step absent ≡ step ValueNode-F.Absent
fold_absent step = search (rules, the_lemmas)

pub fold_enumeration : {A : Type 0} (step : Level A → A) (name : List ℕ) → fold_value step (enumeration_value name) ≡ step (ValueNode-F.Enumer name)
fold_enumeration step name = search (rules, the_lemmas)

pub fold_list : {A : Type 0} (step : Level A → A) (items : List Value) → fold_value step (list_value items) ≡ step (ValueNode-F.List (map (fold_value step) items))
fold_list step items = search (rules, the_lemmas)

pub fold_typed : {A : Type 0} (step : Level A → A) (name : List ℕ) (inner : Value) → fold_value step (typed_value name inner) ≡ step (ValueNode-F.Typed name (fold_value step inner))
fold_typed step name inner = search (rules, the_lemmas)

pub keyword_typed : (name : List ℕ) (inner : Value) → data_type (typed_value name inner) ≡ Some name
keyword_typed name inner = search (rules, the_lemmas)
