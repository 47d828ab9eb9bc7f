-- One turn over the specifications of a document.
use Rattle.std.proofs.Common.{◌≡◌, ◌∙◌, ℕ, ◌+◌, ◌<◌, ◌≤◌, ◌++◌, ◌∷◌, [], List, Ok, Err, length, get_or, map, drop, ap, append-nil}
use Rattle.std.proofs.lemmas.List.{at_drop_all, length-map}
use Rattle.serde_json.specs.View.{view}
use Rattle.serde_json.specs.declared.value.Value.{Value}
use Rattle.schema_table.specs.Schema.{Schema}
use Rattle.audit_model.specs.declared.specification.Specification.{Specification}
use Rattle.ids_reader.specs.declared.fault.IdsFault.{IdsFault}
use Rattle.ids_reader.specs.Reads.{Placed, ◌>>>◌}
use Rattle.ids_reader.specs.Specifications.{specification_of, specifications_from}
use Rattle.ids_reader.proofs.MembersLemmas.{value_at}
use Rattle.ids_reader.proofs.ReadsLemmas.{behind, behind_one}

module _ (s : Schema) (schema_id : List ℕ) where
  -- the specification at i is the next that is read
  turn : (number : ℕ) (xs : List Value) (i : ℕ) (x : Value) (read : Placed Specification)
      → i < length xs → x ≡ get_or xs i x → specification_of s schema_id number (view x) ≡ read
      → specifications_from s schema_id number (drop i (map view xs))
      ≡ (read >>> λ q. (specifications_from s schema_id (number + 1) (drop (i + 1) (map view xs)) >>> λ qs. Ok (q ∷ qs)))
  unfolding specifications_from
  turn number xs i x read h is e =
      value_at (specifications_from s schema_id number) xs i x h is
      ∙ ap (λ r. r >>> λ q. (specifications_from s schema_id (number + 1) (drop (i + 1) (map view xs)) >>> λ qs. Ok (q ∷ qs))) e

  pub turn_ok : (before : List Specification) (number : ℕ) (xs : List Value) (i : ℕ) (x : Value) (q : Specification)
      → i < length xs → x ≡ get_or xs i x → specification_of s schema_id number (view x) ≡ Ok q
      → behind before (specifications_from s schema_id number (drop i (map view xs)))
      ≡ behind (before ++ q ∷ []) (specifications_from s schema_id (number + 1) (drop (i + 1) (map view xs)))
  turn_ok before number xs i x q h is e =
      ap (behind before) (turn number xs i x (Ok q) h is e)
      ∙ behind_one before q (specifications_from s schema_id (number + 1) (drop (i + 1) (map view xs)))

  pub turn_err : (before : List Specification) (number : ℕ) (xs : List Value) (i : ℕ) (x : Value) (f : IdsFault)
      → i < length xs → x ≡ get_or xs i x → specification_of s schema_id number (view x) ≡ Err f
      → behind before (specifications_from s schema_id number (drop i (map view xs))) ≡ Err f
  turn_err before number xs i x f h is e = ap (behind before) (turn number xs i x (Err f) h is e)

  pub at_end : (before : List Specification) (number : ℕ) (xs : List Value) (i : ℕ) → length xs ≤ i
      → behind before (specifications_from s schema_id number (drop i (map view xs))) ≡ Ok before
  unfolding specifications_from
  at_end before number xs i h =
      ap (behind before) (at_drop_all (specifications_from s schema_id number) (map view xs) i (simp length-map h)) ∙ ap Ok (append-nil before)
