-- Hops from an id, and walks of several hops one after the other.
use Rattle.std.specs.Prelude.{ℕ, List, [], ◌∷◌, Option}
use Rattle.std.specs.Option.{option_map_or}
use Rattle.ifc_base.specs.declared.value.Instance.{Instance}
use Rattle.ifc_base.specs.declared.key.Role.{Role}
use Rattle.schema_table.specs.Schema.{Schema}
use Rattle.schema_table.specs.Attributes.{references}
use Rattle.schema_table.specs.Relationships.{relationship}
use Rattle.audit_model.specs.Reading.{Reading, told, stand, referrers_of, visit, gather, ◌>>=◌}

-- backward to the instances that refer by a role, or forward to the references of an attribute
pub data Hop : Type 0 where
  Back : Role → Hop
  Forward : List ℕ → Hop

module _ (s : Schema) where
  -- the references of an attribute; a missing instance leads to nothing
  abbrev pub references_in : Option Instance → List ℕ → List ℕ
  references_in o attr = option_map_or (λ x. references s x attr) o []

  -- A hop from an id stands on it; the hop that follows, or the end of the walk, stands on what it leads to.
  abbrev pub hop : Hop → ℕ → Reading (List ℕ)
  hop (Back role) n = do
    _ ← stand n
    referrers_of n role
  hop (Forward attr) n = do
    x ← stand n
    told (references_in x attr)

  -- one hop after the other, from each of the ids; it stands on the last ids too
  abbrev pub walk : List Hop → List ℕ → Reading (List ℕ)
  walk [] ids = do
    _ ← visit stand ids
    told ids
  walk (h ∷ hs) ids = do
    ends ← gather (hop h) ids
    walk hs ends

  -- the relating things of an id by a role
  abbrev pub relating_things : Role → ℕ → Reading (List ℕ)
  relating_things role n = walk (Back role ∷ Forward (relationship role).relating ∷ []) (n ∷ [])
