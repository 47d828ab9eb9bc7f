-- Pieces of what a shelf holds and of what a sink was given.
use Rattle.std.specs.Prelude.{◌≡◌, ℕ, ◌<◌, ◌≤◌, List, [], ◌∷◌, ◌++◌, length, take, drop, Option, Some, None, if◌then◌else◌}
use Rattle.std.specs.Option.{option_map}
use Rattle.std.specs.Str.{bytes_eq}

-- files, each with the characters of its name and its bytes
abbrev pub Files : Type 0
Files = List (List ℕ × List ℕ)

-- the bytes of the first file of this name
abbrev pub file_named : List ℕ → Files → Option (List ℕ)
file_named name [] = None
file_named name (file ∷ files) = if bytes_eq file.0 name then Some file.1 else file_named name files

-- the bytes of the file of this name, where the shelf tells what it holds and has one
abbrev pub file_told : Option Files → List ℕ → Option (List ℕ)
file_told None name = None
file_told (Some files) name = file_named name files

-- The shelf tells what it holds, and no file has this name.
abbrev pub IsMissing : Option Files → List ℕ → Type 0
IsMissing None name = ⊥
IsMissing (Some files) name = file_named name files ≡ None

-- A read of n bytes from this place: they stand there, and 0 bytes for a buffer with room are the end.
pub record IsPiece (bytes : List ℕ) (from n : ℕ) (buffer : List ℕ) : Type 0 where
  pub same : take n buffer ≡ take n (drop from bytes)
  pub within : n ≤ length (drop from bytes)
  pub ended : 0 < length buffer → n ≡ 0 → length bytes ≤ from

-- Where the sink tells what was written, these bytes came behind it; whether it tells stays.
abbrev pub Appended : Option (List ℕ) → Option (List ℕ) → List ℕ → Type 0
Appended old new bytes = new ≡ option_map (λ written. written ++ bytes) old

-- A part of a piece was taken: not nothing, unless the piece is empty, and at most all.
pub record IsTaken (n : ℕ) (piece : List ℕ) : Type 0 where
  pub some : 0 < length piece → 0 < n
  pub most : n ≤ length piece

-- the front of a list, of its own length
abbrev pub IsFront : List ℕ → List ℕ → Type 0
IsFront front all = take (length front) all ≡ front
