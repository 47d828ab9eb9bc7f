-- What was read, beside what the bytes say.
use Rattle.std.proofs.Common.{◌≡◌, ◌∙◌, ℕ, List, Result, Ok, Err, sym}
use Rattle.std.specs.Prelude.{IfOk}
use Rattle.ifc_base.specs.declared.memory.Refusal.{Refusal}
use Rattle.ifc_base.specs.declared.memory.Refusal.TheVariants.{Fault, Memory}
use Rattle.schema_table.specs.Schema.{Schema}
use Rattle.audit_model.specs.declared.specification.Specification.{Specification}
use Rattle.ids_reader.specs.declared.fault.IdsFault.{IdsFault}
use Rattle.ids_reader.specs.Reads.{Answers}
use Rattle.ids_reader.specs.Documents.{Says, document_of, ids_reading, value_reading}
use Rattle.ids_reader.proofs.ReadsLemmas.{after}

module _ (s : Schema) (id bytes : List ℕ) where
  pub says_what_is_read : (specs : List Specification) → ids_reading s id bytes ≡ Ok specs → Says s id bytes specs
  unfolding ids_reading
  says_what_is_read specs h = after (value_reading bytes) (document_of s id) specs h

  pub found_of : (r : Result (List Specification) (Refusal IdsFault)) → Answers (ids_reading s id bytes) r → IfOk r (Says s id bytes)
  found_of (Ok specs) h = says_what_is_read specs h
  found_of (Err e) h = tt

  says_reads : (specs : List Specification) → Says s id bytes specs → ids_reading s id bytes ≡ Ok specs
  unfolding ids_reading
  says_reads specs says = rw says.1 says.2

  pub only_of : (r : Result (List Specification) (Refusal IdsFault)) → Answers (ids_reading s id bytes) r
      → (specs : List Specification) → Says s id bytes specs → Answers (Ok specs) r
  only_of (Ok x) h specs says = sym (says_reads specs says) ∙ h
  only_of (Err Memory) h specs says = tt
  only_of (Err (Fault f)) h specs says = sym (says_reads specs says) ∙ h
