-- Where each path ends, and the keys that are looked at along it.
use Rattle.std.specs.Prelude.{◌≡◌, ℕ, List, [], ◌∷◌, ◌++◌, flat_map, Option, codes}
use Rattle.ifc_base.specs.declared.value.Instance.{Instance}
use Rattle.ifc_base.specs.declared.key.Role.{Role}
use Rattle.ifc_base.specs.declared.key.Role.TheVariants as role
use Rattle.ifc_base.specs.declared.key.Key.{Key}
use Rattle.schema_table.specs.Schema.{Schema}
use Rattle.audit_model.specs.Keys.{Sight}
use Rattle.audit_model.specs.Reading.{visit, gather, ◌>>=◌}
use Rattle.audit_model.specs.Ascending.{ascending}
use Rattle.audit_model.specs.Hops.{hop, references_in, relating_things}
use Rattle.audit_model.specs.Hops.Hop.{Forward}
use Rattle.audit_model.specs.Closures.{closure, most_hops}
use Rattle.audit_model.specs.Paths.{own_path, types, kind_path, property_path, classification_path, material_path, part_of_path, forward_by, material_attributes, ancestors}
use Rattle.audit_model.specs.Relations.{roles_of}
use Rattle.closure_walk.specs.Walking.{SameKeys}
use Rattle.facet_paths.specs.declared.path.Path.{Path}
use Rattle.facet_paths.specs.declared.path.Path.TheVariants.{Own, Kind, Property, Classification, Material, PartOf, PartOfKind}

module _ (s : Schema) where
  -- what a set names: its properties, and then its quantities (ISO 16739-1, IfcPropertySet, IfcElementQuantity)
  abbrev pub held_in : Option Instance → List ℕ
  held_in set = references_in s set (codes "HasProperties") ++ references_in s set (codes "Quantities")

module _ (s : Schema) (v : Sight) where
  abbrev pub held_by : ℕ → List ℕ
  held_by n = held_in s (v.instance n)

  -- the sets of an element by itself: those that relationships give it, and those that it names
  abbrev pub own_sets : ℕ → List ℕ
  own_sets e = (relating_things s role.Properties e).answer v ++ references_in s (v.instance e) (codes "HasPropertySets")

  -- the sets that its types name
  abbrev pub sets_of_types : ℕ → List ℕ
  sets_of_types e = flat_map (λ t. references_in s (v.instance t) (codes "HasPropertySets")) ((types s e).answer v)

  -- what is looked at on the way to the sets of its types
  abbrev pub keys_of_types : ℕ → List Key
  keys_of_types e = (types s e).keys v ++ (gather (hop s (Forward (codes "HasPropertySets"))) ((types s e).answer v)).keys v

  -- the relating things of an element and of its types
  abbrev pub related_by : Role → ℕ → List ℕ
  related_by r e = (relating_things s r e).answer v ++ flat_map (λ t. (relating_things s r t).answer v) ((types s e).answer v)

  -- what is looked at on the way to them
  abbrev pub related_keys : Role → ℕ → List Key
  related_keys r e = (types s e).keys v ++ ((relating_things s r e).keys v ++ (gather (relating_things s r) ((types s e).answer v)).keys v)

  -- The ends of a path: the element; its types; what its sets and those of its types name; its references and those of its types with
  -- their sources; its materials and those of its types with what they are made of; its ancestors.
  abbrev pub path_ends : Path → ℕ → List ℕ
  path_ends Own e = e ∷ []
  path_ends Kind e = (types s e).answer v
  path_ends Property e = ascending (flat_map held_by (own_sets e ++ sets_of_types e))
  path_ends Classification e = (closure most_hops (forward_by s (codes "ReferencedSource" ∷ [])) (related_by role.Classification e)).answer v
  path_ends Material e = (closure most_hops (forward_by s material_attributes) (related_by role.Material e)).answer v
  path_ends (PartOf relation) e = (ancestors s (roles_of relation) e).answer v
  path_ends (PartOfKind relation) e = (ancestors s (roles_of relation) e).answer v

  -- The keys of a path are those that the facets look at along it.
  abbrev pub path_keys : Path → ℕ → List Key
  path_keys Own e = (own_path s e).keys v
  path_keys Kind e = (kind_path s e).keys v
  path_keys Property e = (property_path s e).keys v
  path_keys Classification e = (classification_path s e).keys v
  path_keys Material e = (material_path s e).keys v
  path_keys (PartOf relation) e = (part_of_path s (roles_of relation) e).keys v
  path_keys (PartOfKind relation) e = (ancestors s (roles_of relation) e >>= visit (kind_path s)).keys v

-- the ends of the path, and its keys appended in some order
pub record Walks (s : Schema) (v : Sight) (path : Path) (e : ℕ) (ends : List ℕ) (reads reads' : List Key) : Type 0 where
  pub ends_are : ends ≡ path_ends s v path e
  pub reads_same : SameKeys reads' (reads ++ path_keys s v path e)
