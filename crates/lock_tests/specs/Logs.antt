-- The notes of a log.
use Rattle.std.specs.Prelude.{ℕ}
use Rattle.lock_tests.specs.declared.log.Note.{Note}

-- the note of this seat with this value
abbrev pub note : ℕ → ℕ → Note
note by value = record { by = by; value = value }
