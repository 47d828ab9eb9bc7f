-- A path beside the plain sentence and the row of the table that it stands for.
use Rattle.std.specs.Prelude.{◌≡◌, ℕ, List, [], ◌∷◌, ◌++◌, codes}
use Rattle.std.specs.List.{flat_map}
use Rattle.ifc_base.specs.declared.value.Instance.{Instance}
use Rattle.ifc_base.specs.declared.key.Role.{Role}
use Rattle.ifc_base.specs.declared.key.Role.TheVariants.{Kind, Properties}
use Rattle.ifc_base.specs.declared.key.Key.{Key}
use Rattle.audit_model.specs.Hops.{references_in}
use Rattle.audit_model.specs.Keys.{Sight, sight}
use Rattle.audit_model.specs.Models.{instance_at}
use Rattle.schema_table.specs.Relationships.{referrers, relationship}
use Rattle.schema_table.specs.Schema.{Schema}
use Rattle.audit_model.specs.Hops.{Hop, walk, relating_things}
use Rattle.audit_model.specs.Hops.Hop.{Back, Forward}
use Rattle.audit_model.specs.Paths.{kind_path, property_path}
use Rattle.closure_walk.specs.Walking.{SameKeys}

-- The relating things of n are the references, by the relating attribute, of those that refer to n.
abbrev pub RelatingIsPlain : Type 0
RelatingIsPlain = (s : Schema) (m : List Instance) (r : Role) (n : ℕ) → (relating_things s r n).answer (sight s m) ≡ flat_map (λ x. references_in s (instance_at x m) (relationship r).relating) (referrers s m n r)

-- a row of the table is a list of walks from the element
abbrev pub row_keys : Schema → Sight → List (List Hop) → ℕ → List Key
row_keys s v rows e = flat_map (λ hs. (walk s hs (e ∷ [])).keys v) rows

abbrev pub kind_row : List (List Hop)
kind_row = (Back Kind ∷ Forward (relationship Kind).relating ∷ []) ∷ []

abbrev pub KindPathIsRow : Type 0
KindPathIsRow = (s : Schema) (v : Sight) (e : ℕ) → SameKeys ((kind_path s e).keys v) (row_keys s v kind_row e)

-- two hops by these attributes begin alike
abbrev pub then_properties : List Hop → List (List Hop)
then_properties hs = (hs ++ Forward (codes "HasProperties") ∷ []) ∷ (hs ++ Forward (codes "Quantities") ∷ []) ∷ []

abbrev pub property_row : List (List Hop)
property_row =
    then_properties (Back Properties ∷ Forward (relationship Properties).relating ∷ [])
    ++ then_properties (Forward (codes "HasPropertySets") ∷ [])
    ++ then_properties (Back Kind ∷ Forward (relationship Kind).relating ∷ Forward (codes "HasPropertySets") ∷ [])

abbrev pub PropertyPathIsRow : Type 0
PropertyPathIsRow = (s : Schema) (v : Sight) (e : ℕ) → SameKeys ((property_path s e).keys v) (row_keys s v property_row e)
