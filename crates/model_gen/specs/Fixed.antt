-- The texts that stand in every made input, whatever the number and the count. All their characters are ASCII, so each is one byte.
use Rattle.std.specs.Prelude.{ℕ, List, ◌++◌, codes}

-- The declarations: a cut of IFC4 in EXPRESS (ISO 10303-11), with every entity of a made model. It is no statement of the standard: many
-- abstract entities and all value types are left out.
unfoldable pub declarations : List ℕ
declarations =
    codes "SCHEMA IFC4; (* cut for the rows *)\n"
    ++ codes "TYPE X = STRING; END_TYPE;\n"
    ++ codes "ENTITY IfcRoot ABSTRACT SUPERTYPE;\n"
    ++ codes "  GlobalId, OwnerHistory, Name, Description : OPTIONAL X; END_ENTITY;\n"
    ++ codes "ENTITY IfcObjectDefinition ABSTRACT SUPERTYPE SUBTYPE OF (IfcRoot); END_ENTITY;\n"
    ++ codes "ENTITY IfcObject ABSTRACT SUPERTYPE SUBTYPE OF (IfcObjectDefinition);\n"
    ++ codes "  ObjectType : OPTIONAL X; END_ENTITY;\n"
    ++ codes "ENTITY IfcProduct ABSTRACT SUPERTYPE SUBTYPE OF (IfcObject);\n"
    ++ codes "  ObjectPlacement, Representation : OPTIONAL X; END_ENTITY;\n"
    ++ codes "ENTITY IfcElement ABSTRACT SUPERTYPE SUBTYPE OF (IfcProduct);\n"
    ++ codes "  Tag : OPTIONAL X; END_ENTITY;\n"
    ++ codes "ENTITY IfcWall SUBTYPE OF (IfcElement); PredefinedType : OPTIONAL X; END_ENTITY;\n"
    ++ codes "ENTITY IfcWallStandardCase SUBTYPE OF (IfcWall); END_ENTITY;\n"
    ++ codes "ENTITY IfcBuildingStorey SUBTYPE OF (IfcProduct);\n"
    ++ codes "  LongName, CompositionType, Elevation : OPTIONAL X; END_ENTITY;\n"
    ++ codes "ENTITY IfcGroup SUBTYPE OF (IfcObject); END_ENTITY;\n"
    ++ codes "ENTITY IfcProject SUBTYPE OF (IfcObjectDefinition);\n"
    ++ codes "  ObjectType, LongName, Phase, RepresentationContexts, UnitsInContext : OPTIONAL X; END_ENTITY;\n"
    ++ codes "ENTITY IfcTypeObject SUBTYPE OF (IfcObjectDefinition);\n"
    ++ codes "  ApplicableOccurrence, HasPropertySets : OPTIONAL X; END_ENTITY;\n"
    ++ codes "ENTITY IfcWallType SUBTYPE OF (IfcTypeObject);\n"
    ++ codes "  RepresentationMaps, Tag, ElementType, PredefinedType : OPTIONAL X; END_ENTITY;\n"
    ++ codes "ENTITY IfcRelationship ABSTRACT SUPERTYPE SUBTYPE OF (IfcRoot); END_ENTITY;\n"
    ++ codes "ENTITY IfcRelDefinesByProperties SUBTYPE OF (IfcRelationship);\n"
    ++ codes "  RelatedObjects, RelatingPropertyDefinition : X; END_ENTITY;\n"
    ++ codes "ENTITY IfcRelDefinesByType SUBTYPE OF (IfcRelationship);\n"
    ++ codes "  RelatedObjects, RelatingType : X; END_ENTITY;\n"
    ++ codes "ENTITY IfcRelAssociatesClassification SUBTYPE OF (IfcRelationship);\n"
    ++ codes "  RelatedObjects, RelatingClassification : X; END_ENTITY;\n"
    ++ codes "ENTITY IfcRelAssociatesMaterial SUBTYPE OF (IfcRelationship);\n"
    ++ codes "  RelatedObjects, RelatingMaterial : X; END_ENTITY;\n"
    ++ codes "ENTITY IfcRelAggregates SUBTYPE OF (IfcRelationship);\n"
    ++ codes "  RelatingObject, RelatedObjects : X; END_ENTITY;\n"
    ++ codes "ENTITY IfcRelContainedInSpatialStructure SUBTYPE OF (IfcRelationship);\n"
    ++ codes "  RelatedElements, RelatingStructure : X; END_ENTITY;\n"
    ++ codes "ENTITY IfcRelAssignsToGroup SUBTYPE OF (IfcRelationship);\n"
    ++ codes "  RelatedObjects, RelatedObjectsType, RelatingGroup : X; END_ENTITY;\n"
    ++ codes "ENTITY IfcPropertySet SUBTYPE OF (IfcRoot); HasProperties : X; END_ENTITY;\n"
    ++ codes "ENTITY IfcElementQuantity SUBTYPE OF (IfcRoot);\n"
    ++ codes "  MethodOfMeasurement, Quantities : X; END_ENTITY;\n"
    ++ codes "ENTITY IfcPropertySingleValue; Name, Description, NominalValue, Unit : X; END_ENTITY;\n"
    ++ codes "ENTITY IfcQuantityLength; Name, Description, Unit, LengthValue, Formula : X; END_ENTITY;\n"
    ++ codes "ENTITY IfcMaterial; Name, Description, Category : X; END_ENTITY;\n"
    ++ codes "ENTITY IfcMaterialLayer;\n"
    ++ codes "  Material, LayerThickness, IsVentilated, Name, Description, Category, Priority : X; END_ENTITY;\n"
    ++ codes "ENTITY IfcMaterialLayerSet; MaterialLayers, LayerSetName, Description : X; END_ENTITY;\n"
    ++ codes "ENTITY IfcMaterialLayerSetUsage;\n"
    ++ codes "  ForLayerSet, LayerSetDirection, DirectionSense, OffsetFromReferenceLine, ReferenceExtent : X; END_ENTITY;\n"
    ++ codes "ENTITY IfcClassification;\n"
    ++ codes "  Source, Edition, EditionDate, Name, Description, Location, ReferenceTokens : X; END_ENTITY;\n"
    ++ codes "ENTITY IfcClassificationReference;\n"
    ++ codes "  Location, Identification, Name, ReferencedSource, Description, Sort : X; END_ENTITY;\n"
    ++ codes "ENTITY IfcPerson; Identification, FamilyName, GivenName, MiddleNames,\n"
    ++ codes "  PrefixTitles, SuffixTitles, Roles, Addresses : X; END_ENTITY;\n"
    ++ codes "ENTITY IfcOrganization; Identification, Name, Description, Roles, Addresses : X; END_ENTITY;\n"
    ++ codes "ENTITY IfcPersonAndOrganization; ThePerson, TheOrganization, Roles : X; END_ENTITY;\n"
    ++ codes "ENTITY IfcApplication; ApplicationDeveloper, Version, ApplicationFullName, ApplicationIdentifier : X; END_ENTITY;\n"
    ++ codes "ENTITY IfcOwnerHistory; OwningUser, OwningApplication, State, ChangeAction,\n"
    ++ codes "  LastModifiedDate, LastModifyingUser, LastModifyingApplication, CreationDate : X; END_ENTITY;\n"
    ++ codes "ENTITY IfcNamedUnit ABSTRACT SUPERTYPE; Dimensions, UnitType : X; END_ENTITY;\n"
    ++ codes "ENTITY IfcSIUnit SUBTYPE OF (IfcNamedUnit); Prefix, Name : X;\n"
    ++ codes "  DERIVE SELF\\IfcNamedUnit.Dimensions : X := 'x'; END_ENTITY;\n"
    ++ codes "ENTITY IfcUnitAssignment; Units : X; END_ENTITY;\n"
    ++ codes "END_SCHEMA;\n"

-- The specifications: one, for IFC4, that every wall has a fire rating of REI60 in its property set Pset_WallCommon.
unfoldable pub specifications : List ℕ
specifications =
    codes "{\"specifications\":[{\"name\":\"walls\",\"ifcVersion\":[\"IFC4\"],\n"
    ++ codes "\"applicability\":{\"minOccurs\":\"0\",\"maxOccurs\":\"unbounded\",\"facets\":[{\"facet\":\"entity\",\"name\":{\"simpleValue\":\"IFCWALL\"}}]},\n"
    ++ codes "\"requirements\":[{\"facet\":\"property\",\"dataType\":\"IFCLABEL\",\"propertySet\":{\"simpleValue\":\"Pset_WallCommon\"},\"baseName\":{\"simpleValue\":\"FireRating\"},\"value\":{\"simpleValue\":\"REI60\"}}]}]}\n"

-- The script: an audit; then the rating of wall 1 is set to REI30, and an audit; then it is set back to REI60, and an audit.
unfoldable pub script : List ℕ
script =
    codes "sync\n"
    ++ codes "open\n"
    ++ codes "set #11 NominalValue IFCLABEL('REI30')\n"
    ++ codes "commit\n"
    ++ codes "sync\n"
    ++ codes "open\n"
    ++ codes "set #11 NominalValue IFCLABEL('REI60')\n"
    ++ codes "commit\n"
    ++ codes "sync\n"

-- What stands before the instances of a made model: the header of an exchange file (ISO 10303-21), and the word that begins its data.
unfoldable pub head : List ℕ
head =
    codes "ISO-10303-21;\n"
    ++ codes "HEADER;\n"
    ++ codes "FILE_DESCRIPTION((''),'2;1');\n"
    ++ codes "FILE_NAME('','',(''),(''),'','','');\n"
    ++ codes "FILE_SCHEMA(('IFC4'));\n"
    ++ codes "ENDSEC;\n"
    ++ codes "DATA;\n"

-- What stands behind them.
unfoldable pub foot : List ℕ
foot =
    codes "ENDSEC;\n"
    ++ codes "END-ISO-10303-21;\n"
