-- The kinds of property that have values (ISO 16739-1, IfcSimpleProperty and IfcPhysicalSimpleQuantity), each under a name of its own.
use Rattle.std.specs.Prelude.{ℕ, Bool, false, List, [], ◌∷◌, Option, Some, None, codes, find, flat_map, bytes_eq}
use Rattle.std.specs.Option.{option_map_or, option_to_list, unwrap_or}
use Rattle.ifc_base.specs.declared.value.Instance.{Instance}
use Rattle.ifc_base.specs.declared.value.Value.{Value}
use Rattle.schema_table.specs.Schema.{Schema, is_kind_of}
use Rattle.schema_table.specs.Values.{data_type, members}
use Rattle.schema_table.specs.Attributes.{attribute}
use Rattle.audit_model.specs.Properties.{Source}
use Rattle.audit_model.specs.Properties.Source.{Single, Members, Measure}
use Rattle.facet_property.specs.declared.shape.Shape.{Shape}
use Rattle.facet_property.specs.declared.shape.Shape.TheVariants as shape

-- those that have values, in the order of the table
abbrev pub all_shapes : List Shape
all_shapes = shape.Single ∷ shape.Enumerated ∷ shape.List ∷ shape.Bounded ∷ shape.Table ∷ shape.Length ∷ shape.Area ∷ shape.Volume ∷ shape.Count ∷ shape.Weight ∷ shape.Time ∷ []

abbrev pub shape_entity : Shape → List ℕ
shape_entity shape.Single = codes "IFCPROPERTYSINGLEVALUE"
shape_entity shape.Enumerated = codes "IFCPROPERTYENUMERATEDVALUE"
shape_entity shape.List = codes "IFCPROPERTYLISTVALUE"
shape_entity shape.Bounded = codes "IFCPROPERTYBOUNDEDVALUE"
shape_entity shape.Table = codes "IFCPROPERTYTABLEVALUE"
shape_entity shape.Length = codes "IFCQUANTITYLENGTH"
shape_entity shape.Area = codes "IFCQUANTITYAREA"
shape_entity shape.Volume = codes "IFCQUANTITYVOLUME"
shape_entity shape.Count = codes "IFCQUANTITYCOUNT"
shape_entity shape.Weight = codes "IFCQUANTITYWEIGHT"
shape_entity shape.Time = codes "IFCQUANTITYTIME"
shape_entity shape.Other = []

abbrev pub shape_sources : Shape → List Source
shape_sources shape.Single = Single (codes "NominalValue") ∷ []
shape_sources shape.Enumerated = Members (codes "EnumerationValues") ∷ []
shape_sources shape.List = Members (codes "ListValues") ∷ []
shape_sources shape.Bounded = Single (codes "UpperBoundValue") ∷ Single (codes "LowerBoundValue") ∷ Single (codes "SetPointValue") ∷ []
shape_sources shape.Table = Members (codes "DefiningValues") ∷ Members (codes "DefinedValues") ∷ []
shape_sources shape.Length = Measure (codes "LengthValue") (codes "IFCLENGTHMEASURE") ∷ []
shape_sources shape.Area = Measure (codes "AreaValue") (codes "IFCAREAMEASURE") ∷ []
shape_sources shape.Volume = Measure (codes "VolumeValue") (codes "IFCVOLUMEMEASURE") ∷ []
shape_sources shape.Count = Measure (codes "CountValue") (codes "IFCCOUNTMEASURE") ∷ []
shape_sources shape.Weight = Measure (codes "WeightValue") (codes "IFCMASSMEASURE") ∷ []
shape_sources shape.Time = Measure (codes "TimeValue") (codes "IFCTIMEMEASURE") ∷ []
shape_sources shape.Other = []

-- the data type of all values of a quantity
abbrev pub shape_type : Shape → Option (List ℕ)
shape_type shape.Length = Some (codes "IFCLENGTHMEASURE")
shape_type shape.Area = Some (codes "IFCAREAMEASURE")
shape_type shape.Volume = Some (codes "IFCVOLUMEMEASURE")
shape_type shape.Count = Some (codes "IFCCOUNTMEASURE")
shape_type shape.Weight = Some (codes "IFCMASSMEASURE")
shape_type shape.Time = Some (codes "IFCTIMEMEASURE")
shape_type _ = None

-- the first whose entity this one is a kind of; any other entity has no values
unfoldable pub shape_of : Schema → List ℕ → Shape
shape_of s entity = unwrap_or (find (λ h. is_kind_of s entity (shape_entity h)) all_shapes) shape.Other

-- the values that stand at a place
abbrev pub values_at : Schema → Instance → Source → List Value
values_at s x (Single attr) = option_to_list (attribute s x attr)
values_at s x (Members attr) = option_map_or members (attribute s x attr) []
values_at s x (Measure attr kind) = option_to_list (attribute s x attr)

-- the values that stand where a property of this shape has them
abbrev pub shape_values : Schema → Shape → Instance → List Value
shape_values s h x = flat_map (values_at s x) (shape_sources h)

-- the data type of a value of a property of this shape
abbrev pub type_by : Option (List ℕ) → Value → Option (List ℕ)
type_by None v = data_type v
type_by (Some kind) v = Some kind

-- the value has this data type
abbrev pub is_typed_so : List ℕ → Shape → Value → Bool
is_typed_so kind h v = option_map_or (bytes_eq kind) (type_by (shape_type h) v) false
