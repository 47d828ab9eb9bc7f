-- A path beside the plain sentence and the row of the table that it stands for.
use Rattle.std.proofs.Common.{ℕ, List, [], ◌∷◌, ◌++◌, inl, inr}
use Rattle.std.specs.List.{flat_map}
use Rattle.std.proofs.lemmas.List.{append-nil}
use Rattle.ifc_base.specs.declared.key.Key.{Key}
use Rattle.ifc_base.specs.declared.key.Role.TheVariants.{Kind}
use Rattle.schema_table.specs.Relationships.{relationship}
use Rattle.audit_model.specs.Reading.{stand}
use Rattle.audit_model.specs.Hops.{hop, walk}
use Rattle.audit_model.specs.Hops.Hop.{Back, Forward}
use Rattle.closure_walk.specs.Ties.{RelatingIsPlain, KindPathIsRow}
use Rattle.closure_walk.proofs.Members.{in_first, in_last, in_parts}

pub relating_plain : RelatingIsPlain
relating_plain s m r n = rw append-nil

pub kind_row_same : KindPathIsRow
kind_row_same s v e k =
    let ids : List ℕ = (hop s (Back Kind) e).answer v ++ [] in
    let hops : List Key = flat_map (λ x. (hop s (Forward (relationship Kind).relating) x).keys v) ids in
    let ends : List ℕ = flat_map (λ x. (hop s (Forward (relationship Kind).relating) x).answer v) ids in
    let stood : List Key = flat_map (λ x. (stand x).keys v) ends in
    let whole : List Key = (walk s (Back Kind ∷ Forward (relationship Kind).relating ∷ []) (e ∷ [])).keys v in (
      λ h. in_first k whole [] (elim h [
        | inl a ↦ inl a
        | inr a ↦ elim (in_parts k whole (stood ++ []) a) [
          | inl b ↦ b
          | inr b ↦ inr (inr (in_last k hops (stood ++ []) b))
        ]
      ]),
      λ h. elim (in_parts k whole [] h) [ inl a ↦ inr (in_first k whole (stood ++ []) a) | inr a ↦ absurd a ],
    )
