-- One turn over the facets of a side.
use Rattle.std.proofs.Common.{◌≡◌, ◌∙◌, ℕ, ◌+◌, ◌<◌, ◌≤◌, ◌++◌, ◌∷◌, [], Bool, List, Ok, Err, length, get_or, map, drop, ap, append-nil, refl}
use Rattle.std.proofs.lemmas.List.{at_drop_all, length-map}
use Rattle.serde_json.specs.View.{view}
use Rattle.serde_json.specs.declared.value.Value.{Value}
use Rattle.schema_table.specs.Schema.{Schema}
use Rattle.audit_model.specs.declared.specification.Requirement.{Requirement}
use Rattle.ids_reader.specs.declared.fault.IdsFault.{IdsFault}
use Rattle.ids_reader.specs.declared.standing.Setting.{Setting}
use Rattle.ids_reader.specs.Reads.{Placed, ◌>>>◌}
use Rattle.ids_reader.specs.Sides.{facet_at, facets_from, closed_after, alone}
use Rattle.ids_reader.proofs.MembersLemmas.{value_at}
use Rattle.ids_reader.proofs.ReadsLemmas.{behind, behind_one}

module _ (s : Schema) (t : Setting) where
  -- the facet at i is the next that is read
  turn : (place : ℕ) (closed : Bool) (xs : List Value) (i : ℕ) (x : Value) (read : Placed Requirement)
      → i < length xs → x ≡ get_or xs i x → facet_at s t place closed (view x) ≡ read
      → facets_from s t place closed (drop i (map view xs))
      ≡ (read >>> λ r. (facets_from s t (place + 1) (closed_after t.side closed r.facet) (drop (i + 1) (map view xs)) >>> λ rs. Ok (r ∷ rs)))
  unfolding facets_from
  turn place closed xs i x read h is e =
      value_at (facets_from s t place closed) xs i x h is
      ∙ ap (λ r. r >>> λ r. (facets_from s t (place + 1) (closed_after t.side closed r.facet) (drop (i + 1) (map view xs)) >>> λ rs. Ok (r ∷ rs))) e

  pub turn_ok : (before : List Requirement) (place : ℕ) (closed : Bool) (xs : List Value) (i : ℕ) (x : Value) (r : Requirement)
      → i < length xs → x ≡ get_or xs i x → facet_at s t place closed (view x) ≡ Ok r
      → behind before (facets_from s t place closed (drop i (map view xs)))
      ≡ behind (before ++ r ∷ []) (facets_from s t (place + 1) (closed_after t.side closed r.facet) (drop (i + 1) (map view xs)))
  turn_ok before place closed xs i x r h is e =
      ap (behind before) (turn place closed xs i x (Ok r) h is e)
      ∙ behind_one before r (facets_from s t (place + 1) (closed_after t.side closed r.facet) (drop (i + 1) (map view xs)))

  pub turn_err : (before : List Requirement) (place : ℕ) (closed : Bool) (xs : List Value) (i : ℕ) (x : Value) (f : IdsFault)
      → i < length xs → x ≡ get_or xs i x → facet_at s t place closed (view x) ≡ Err f
      → behind before (facets_from s t place closed (drop i (map view xs))) ≡ Err f
  turn_err before place closed xs i x f h is e = ap (behind before) (turn place closed xs i x (Err f) h is e)

  pub at_end : (before : List Requirement) (place : ℕ) (closed : Bool) (xs : List Value) (i : ℕ) → length xs ≤ i
      → behind before (facets_from s t place closed (drop i (map view xs))) ≡ Ok before
  unfolding facets_from
  at_end before place closed xs i h =
      ap (behind before) (at_drop_all (facets_from s t place closed) (map view xs) i (simp length-map h)) ∙ ap Ok (append-nil before)

pub alone_more : (rs : List Requirement) (r : Requirement) → alone (rs ++ r ∷ []) ≡ alone rs ++ r.facet ∷ []
unfolding alone
alone_more [] r = refl
alone_more (x ∷ rs) r = ap (λ fs. x.facet ∷ fs) (alone_more rs r)
