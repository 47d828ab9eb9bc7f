-- What each path sees that a facet looks along, and the keys that it looks at. A path is walked whole, whatever it finds.
use Rattle.std.specs.Prelude.{ℕ, List, [], ◌∷◌, ◌++◌, flat_map, Option, codes}
use Rattle.ifc_base.specs.declared.value.Instance.{Instance}
use Rattle.ifc_base.specs.declared.key.Role.{Role}
use Rattle.ifc_base.specs.declared.key.Role.TheVariants as role
use Rattle.schema_table.specs.Schema.{Schema}
use Rattle.audit_model.specs.Reading.{Reading, told, stand, visit, gather, ◌>>=◌}
use Rattle.audit_model.specs.Hops.{hop, relating_things, references_in}
use Rattle.audit_model.specs.Hops.Hop.{Forward}
use Rattle.audit_model.specs.Closures.{closure, most_hops, most_after}

-- an element and its types
pub record SeenKind : Type 0 where
  pub itself : Option Instance
  pub types : List (Option Instance)

-- a set of properties or quantities, and what is in it
pub record SeenSet : Type 0 where
  pub itself : Option Instance
  pub properties : List (Option Instance)

-- the sets of an element by itself, and those of its types
pub record SeenSets : Type 0 where
  pub own : List SeenSet
  pub of_types : List SeenSet

-- classification references of an element and of its types, each as the members of its closure
pub record SeenReferences : Type 0 where
  pub own : List (List (Option Instance))
  pub of_types : List (List (Option Instance))

-- the members of the closure of the materials of an element, and of those of its types
pub record SeenMaterials : Type 0 where
  pub own : List (Option Instance)
  pub of_types : List (Option Instance)

-- the attributes by which one material definition leads to another
abbrev pub material_attributes : List (List ℕ)
material_attributes =
    codes "ForLayerSet" ∷ codes "MaterialLayers" ∷ codes "ForProfileSet" ∷ codes "MaterialProfiles" ∷ codes "MaterialConstituents" ∷ codes "Materials" ∷ codes "Material" ∷ []

module _ (s : Schema) where
  -- Own: the element alone.
  abbrev pub own_path : ℕ → Reading (Option Instance)
  own_path e = stand e

  -- Kind: from the element backward by Kind, forward by RelatingType; the ends are its types.
  abbrev pub types : ℕ → Reading (List ℕ)
  types e = relating_things s role.Kind e

  abbrev pub kind_path : ℕ → Reading SeenKind
  kind_path e = do
    x ← stand e
    ids ← types e
    ts ← visit stand ids
    told (record { itself = x; types = ts })

  -- a set: forward by HasProperties and by Quantities
  abbrev pub set_path : ℕ → Reading SeenSet
  set_path n = do
    x ← stand n
    ps ← visit stand (references_in s x (codes "HasProperties") ++ references_in s x (codes "Quantities"))
    told (record { itself = x; properties = ps })

  -- Property: the sets that are relating things of the element by Properties, and those in its HasPropertySets; and, along Kind, those
  -- in the HasPropertySets of its types.
  abbrev pub property_path : ℕ → Reading SeenSets
  property_path e = do
    x ← stand e
    given ← relating_things s role.Properties e
    own ← visit set_path (given ++ references_in s x (codes "HasPropertySets"))
    ts ← types e
    ids ← gather (hop s (Forward (codes "HasPropertySets"))) ts
    inherited ← visit set_path ids
    told (record { own = own; of_types = inherited })

  -- One step forward: the references of these attributes, in their order. It stands on the id once.
  abbrev pub forward_by : List (List ℕ) → ℕ → Reading (List ℕ)
  forward_by attrs n = do
    x ← stand n
    told (flat_map (references_in s x) attrs)

  -- the members of the closure of a classification reference by ReferencedSource
  abbrev pub source_path : ℕ → Reading (List (Option Instance))
  source_path n = do
    ids ← closure most_hops (forward_by (codes "ReferencedSource" ∷ [])) (n ∷ [])
    visit stand ids

  abbrev pub reference_path : ℕ → Reading (List (List (Option Instance)))
  reference_path n = do
    ids ← relating_things s role.Classification n
    visit source_path ids

  -- Classification: from the element and from each of its types backward by Classification, forward by RelatingClassification, then
  -- forward by ReferencedSource as long as new ids come.
  abbrev pub classification_path : ℕ → Reading SeenReferences
  classification_path e = do
    ts ← types e
    own ← reference_path e
    inherited ← gather reference_path ts
    told (record { own = own; of_types = inherited })

  -- the members of the closure of materials by the seven attributes
  abbrev pub members_path : List ℕ → Reading (List (Option Instance))
  members_path starts = do
    ids ← closure most_hops (forward_by material_attributes) starts
    visit stand ids

  -- Material: from the element and from each of its types backward by Material, forward by RelatingMaterial, then forward by the seven
  -- attributes as long as new ids come.
  abbrev pub material_path : ℕ → Reading SeenMaterials
  material_path e = do
    ts ← types e
    given ← relating_things s role.Material e
    own ← members_path given
    ids ← gather (relating_things s role.Material) ts
    inherited ← members_path ids
    told (record { own = own; of_types = inherited })

  -- one step up: the relating things by any of the roles
  abbrev pub above : List Role → ℕ → Reading (List ℕ)
  above roles n = do
    _ ← stand n
    gather (λ role. relating_things s role n) roles

  -- PartOf: the ancestors of the element, which are what one or more steps up reach. It is one itself only where it is reached, and
  -- an ancestor that is missing in the model may have ancestors.
  abbrev pub ancestors : List Role → ℕ → Reading (List ℕ)
  ancestors roles e = do
    first ← above roles e
    closure most_after (above roles) first

  abbrev pub part_of_path : List Role → ℕ → Reading (List (Option Instance))
  part_of_path roles e = do
    ids ← ancestors roles e
    visit stand ids
