-- Whether a property facet holds, as a function of the sets that its path sees (IDS 1.0, property facet).
use Rattle.std.specs.Prelude.{ℕ, Bool, true, false, not, ◌&&◌, List, [], ◌∷◌, ◌++◌, map, filter, filter_map, flat_map, find, length, nat_lt, Option, Some, codes, bytes_eq}
use Rattle.std.specs.List.{list_any, list_all}
use Rattle.std.specs.Option.{option_map, option_map_or, option_and_then, option_to_list}
use Rattle.ifc_base.specs.declared.value.Instance.{Instance}
use Rattle.ifc_base.specs.declared.value.Value.{Value}
use Rattle.schema_table.specs.Schema.{Schema, is_kind_of}
use Rattle.schema_table.specs.Values.{data_type, members, is_set}
use Rattle.schema_table.specs.Attributes.{attribute, text}
use Rattle.audit_model.specs.declared.facet.PropertyFacet.{PropertyFacet}
use Rattle.audit_model.specs.declared.verdict.Weighed.{Weighed}
use Rattle.restrictions.specs.Admitting.{admits, admits_text}
use Rattle.audit_model.specs.Paths.{SeenSet, SeenSets}

-- The values of a property (ISO 16739-1, IfcSimpleProperty and IfcPhysicalSimpleQuantity), by the kind of its entity. A kind that isn't
-- listed has none.

-- where a value comes from: an attribute, its members, or an attribute that is a measure of this data type
pub data Source : Type 0 where
  Single : List ℕ → Source
  Members : List ℕ → Source
  Measure : List ℕ → List ℕ → Source

pub record PropertyKind : Type 0 where
  pub entity : List ℕ
  pub sources : List Source

abbrev pub property_kinds : List PropertyKind
property_kinds =
    record { entity = codes "IFCPROPERTYSINGLEVALUE"; sources = Single (codes "NominalValue") ∷ [] }
    ∷ record { entity = codes "IFCPROPERTYENUMERATEDVALUE"; sources = Members (codes "EnumerationValues") ∷ [] }
    ∷ record { entity = codes "IFCPROPERTYLISTVALUE"; sources = Members (codes "ListValues") ∷ [] }
    ∷ record { entity = codes "IFCPROPERTYBOUNDEDVALUE"; sources = Single (codes "UpperBoundValue") ∷ Single (codes "LowerBoundValue") ∷ Single (codes "SetPointValue") ∷ [] }
    ∷ record { entity = codes "IFCPROPERTYTABLEVALUE"; sources = Members (codes "DefiningValues") ∷ Members (codes "DefinedValues") ∷ [] }
    ∷ record { entity = codes "IFCQUANTITYLENGTH"; sources = Measure (codes "LengthValue") (codes "IFCLENGTHMEASURE") ∷ [] }
    ∷ record { entity = codes "IFCQUANTITYAREA"; sources = Measure (codes "AreaValue") (codes "IFCAREAMEASURE") ∷ [] }
    ∷ record { entity = codes "IFCQUANTITYVOLUME"; sources = Measure (codes "VolumeValue") (codes "IFCVOLUMEMEASURE") ∷ [] }
    ∷ record { entity = codes "IFCQUANTITYCOUNT"; sources = Measure (codes "CountValue") (codes "IFCCOUNTMEASURE") ∷ [] }
    ∷ record { entity = codes "IFCQUANTITYWEIGHT"; sources = Measure (codes "WeightValue") (codes "IFCMASSMEASURE") ∷ [] }
    ∷ record { entity = codes "IFCQUANTITYTIME"; sources = Measure (codes "TimeValue") (codes "IFCTIMEMEASURE") ∷ [] }
    ∷ []

-- a value of a property and its data type, if it has one
pub record PropertyValue : Type 0 where
  pub value : Value
  pub of_type : Option (List ℕ)

-- a value whose data type is its own keyword
abbrev pub typed_by_itself : Value → PropertyValue
typed_by_itself v = record { value = v; of_type = data_type v }

-- a property that stands in a set, with the names of both
pub record Property : Type 0 where
  pub set_name : List ℕ
  pub name : List ℕ
  pub itself : Instance

abbrev pub have_same_names : Property → Property → Bool
have_same_names p q = bytes_eq p.set_name q.set_name && bytes_eq p.name q.name

-- own ones, and those of the types of which no own one has the names
abbrev pub with_inherited : List Property → List Property → List Property
with_inherited own inherited = own ++ filter (λ q. not (list_any (have_same_names q) own)) inherited

module _ (s : Schema) where
  abbrev pub drawn_from : Instance → Source → List PropertyValue
  drawn_from x (Single attr) = map typed_by_itself (option_to_list (attribute s x attr))
  drawn_from x (Members attr) = map typed_by_itself (option_map_or members (attribute s x attr) [])
  drawn_from x (Measure attr kind) = map (λ v. record { value = v; of_type = Some kind }) (option_to_list (attribute s x attr))

  abbrev pub sources_of : Instance → List Source
  sources_of x = option_map_or (λ k. k.sources) (find (λ k. is_kind_of s x.entity k.entity) property_kinds) []

  -- the values of a property that are set
  abbrev pub values : Instance → List PropertyValue
  values x = filter (λ v. is_set v.value) (flat_map (drawn_from x) (sources_of x))

  -- the name of a set, if it is there and has one
  abbrev pub set_name : SeenSet → Option (List ℕ)
  set_name seen = option_and_then (λ x. text s x (codes "Name")) seen.itself

  abbrev pub named_property : List ℕ → Instance → Option Property
  named_property set x = option_map (λ name. record { set_name = set; name = name; itself = x }) (text s x (codes "Name"))

  -- The properties that stand in a set under its name. A set or a property without a name counts for nothing.
  abbrev pub properties_in : SeenSet → List Property
  properties_in seen = option_map_or (λ set. filter_map (option_and_then (named_property set)) seen.properties) (set_name seen) []

  -- The properties that reach the element. One of its own sets hides that of the same two names in its types' sets.
  abbrev pub reaching : SeenSets → List Property
  reaching seen = with_inherited (flat_map properties_in seen.own) (flat_map properties_in seen.of_types)

  -- the set names that reach the element and are admitted
  abbrev pub admitted_sets : PropertyFacet → SeenSets → List (List ℕ)
  admitted_sets f seen = filter (admits_text f.set) (filter_map set_name (seen.own ++ seen.of_types))

  abbrev pub has_value : Property → Bool
  has_value p = nat_lt 0 (length (values p.itself))

  -- each value is of the data type, and there is one
  abbrev pub has_type : Property → List ℕ → Bool
  has_type p kind = has_value p && list_all (λ v. option_map_or (bytes_eq kind) v.of_type false) (values p.itself)

  -- The property is of the data type that is asked for, if one is, and some value of it is admitted, if one is asked for.
  abbrev pub is_good : PropertyFacet → Property → Bool
  is_good f p = option_map_or (has_type p) f.kind true && option_map_or (λ c. list_any (λ v. admits c v.value) (values p.itself)) f.value true

  -- those of this set name that have an admitted name
  abbrev pub asked_in : PropertyFacet → List Property → List ℕ → List Property
  asked_in f ps set = filter (λ p. bytes_eq p.set_name set && admits_text f.base_name p.name) ps

  -- under this set name some property that is asked for has a value, and every one is good
  abbrev pub is_satisfied_in : PropertyFacet → List Property → List ℕ → Bool
  is_satisfied_in f ps set = list_any has_value (asked_in f ps set) && list_all (is_good f) (asked_in f ps set)

  -- Property (IDS 1.0, property facet): some admitted set name reaches the element, and every one that does is satisfied. The subject is a property of admitted
  -- names that reaches the element and has a value.
  abbrev pub property_weighed : PropertyFacet → SeenSets → Weighed
  property_weighed f seen = record {
    holds = nat_lt 0 (length (admitted_sets f seen)) && list_all (is_satisfied_in f (reaching seen)) (admitted_sets f seen);
    subject = list_any (λ p. admits_text f.set p.set_name && admits_text f.base_name p.name && has_value p) (reaching seen);
  }
