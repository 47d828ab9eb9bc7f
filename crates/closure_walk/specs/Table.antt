-- The table of paths, as data: from where each path goes on by which hops.
use Rattle.std.specs.Prelude.{ℕ, List, [], ◌∷◌, codes}
use Rattle.std.specs.List.{flat_map}
use Rattle.ifc_base.specs.declared.key.Key.{Key}
use Rattle.ifc_base.specs.declared.key.Role.{Role}
use Rattle.ifc_base.specs.declared.key.Role.TheVariants as role
use Rattle.audit_model.specs.Reading.{Reading, told, stand, gather, ◌>>=◌}
use Rattle.audit_model.specs.Hops.{Hop, walk}
use Rattle.audit_model.specs.Hops.Hop.{Back, Forward}
use Rattle.audit_model.specs.Closures.{closure, most_hops, most_after}
use Rattle.audit_model.specs.Paths.{forward_by, above, material_attributes, classification_path, material_path, part_of_path}
use Rattle.audit_model.specs.Keys.{Sight}
use Rattle.schema_table.specs.Relationships.{relationship}
use Rattle.schema_table.specs.Schema.{Schema}
use Rattle.closure_walk.specs.Walking.{SameKeys}

-- One hop after the other; forward by these attributes as long as new ids come; to the relating things by these roles; and on to theirs
-- as long as new ids come.
pub data Leg : Type 0 where
  Hops : List Hop → Leg
  More : List (List ℕ) → Leg
  Up : List Role → Leg
  MoreUp : List Role → Leg

module _ (s : Schema) where
  -- the legs of a row, one after the other
  abbrev pub follow : List Leg → List ℕ → Reading (List ℕ)
  follow [] ids = told ids
  follow (Hops hs ∷ legs) ids = do
    ends ← walk s hs ids
    follow legs ends
  follow (More attrs ∷ legs) ids = do
    ends ← closure most_hops (forward_by s attrs) ids
    follow legs ends
  follow (Up roles ∷ legs) ids = do
    ends ← gather (above s roles) ids
    follow legs ends
  follow (MoreUp roles ∷ legs) ids = do
    ends ← closure most_after (above s roles) ids
    follow legs ends

  -- a walk begins by standing on the element
  abbrev pub row : List Leg → ℕ → Reading (List ℕ)
  row legs e = do
    _ ← stand e
    follow legs (e ∷ [])

  -- the keys of the rows of a path
  abbrev pub table_keys : Sight → List (List Leg) → ℕ → List Key
  table_keys v rows e = flat_map (λ legs. (row legs e).keys v) rows

abbrev pub by_role : Role → List Hop
by_role r = Back r ∷ Forward (relationship r).relating ∷ []

abbrev pub classification_rows : List (List Leg)
classification_rows =
    (Hops (by_role role.Kind) ∷ [])
    ∷ (Hops (by_role role.Classification) ∷ More (codes "ReferencedSource" ∷ []) ∷ [])
    ∷ (Hops (by_role role.Kind) ∷ Hops (by_role role.Classification) ∷ More (codes "ReferencedSource" ∷ []) ∷ [])
    ∷ []

abbrev pub material_rows : List (List Leg)
material_rows =
    (Hops (by_role role.Kind) ∷ [])
    ∷ (Hops (by_role role.Material) ∷ More material_attributes ∷ [])
    ∷ (Hops (by_role role.Kind) ∷ Hops (by_role role.Material) ∷ More material_attributes ∷ [])
    ∷ []

abbrev pub part_of_rows : List Role → List (List Leg)
part_of_rows roles = (Up roles ∷ MoreUp roles ∷ []) ∷ []

abbrev pub ClassificationPathIsRows : Type 0
ClassificationPathIsRows = (s : Schema) (v : Sight) (e : ℕ) → SameKeys ((classification_path s e).keys v) (table_keys s v classification_rows e)

abbrev pub MaterialPathIsRows : Type 0
MaterialPathIsRows = (s : Schema) (v : Sight) (e : ℕ) → SameKeys ((material_path s e).keys v) (table_keys s v material_rows e)

abbrev pub PartOfPathIsRows : Type 0
PartOfPathIsRows = (s : Schema) (v : Sight) (roles : List Role) (e : ℕ) → SameKeys ((part_of_path s roles e).keys v) (table_keys s v (part_of_rows roles) e)
