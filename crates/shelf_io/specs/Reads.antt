-- What a shelf was asked for and what it answered, and how a file is read from its front on.
use Rattle.std.specs.Prelude.{◌≡◌, ℕ, ◌+◌, ◌<◌, ◌≤◌, nat_lt, if◌then◌else◌, List, [], ◌∷◌, ◌++◌, length, take, Option, Some, None, Result, Ok, Err}
use Rattle.ifc_base.specs.declared.memory.Refusal.{Refusal}
use Rattle.ifc_base.specs.declared.memory.Refusal.TheVariants.{Fault, Memory}
use Rattle.shelf_io.specs.declared.traits.Failed.{Failed}

-- A read: the characters of the name, the place from which the file was to be read, the room of the buffer, and the bytes that were
-- answered, or None where it failed.
abbrev pub Read : Type 0
Read = List ℕ × ℕ × ℕ × Option (List ℕ)

-- the bytes that a read answered, at the front of its buffer, or None where it failed
abbrev pub answered : Result ℕ Failed → List ℕ → Option (List ℕ)
answered (Ok n) buffer = Some (take n buffer)
answered (Err failed) buffer = None

-- These reads, the newest first, gave these bytes of the file from its front on, at most `most`: each was made where the ones before it
-- had come to, and answered some bytes.
abbrev pub HaveGiven : List ℕ → ℕ → List Read → List ℕ → Type 0
HaveGiven name most [] bytes = bytes ≡ []
HaveGiven name most (read ∷ earlier) bytes =
    (before : List ℕ) × (piece : List ℕ) × (room : ℕ) × HaveGiven name most earlier before × (0 < length piece) × (length before + length piece ≤ most)
    × (read ≡ (name, length before, room, Some piece)) × (bytes ≡ before ++ piece)

-- the read that shows that these bytes are the whole file: it is made where fewer than `most` are there, and answers no byte
abbrev pub last_read : List ℕ → ℕ → List ℕ → ℕ → List Read
last_read name most bytes room = if nat_lt (length bytes) most then (name, length bytes, room, Some []) ∷ [] else []

-- The log went from `old` to `new` by such reads.
abbrev pub HasGiven : List ℕ → ℕ → List Read → List Read → List ℕ → Type 0
HasGiven name most old new bytes = (reads : List Read) × HaveGiven name most reads bytes × (new ≡ reads ++ old)

-- The log went from `old` to `new` by reading the whole file of this name, or its first `most` bytes, and these are the bytes.
abbrev pub IsWhole : List ℕ → ℕ → List Read → List Read → List ℕ → Type 0
IsWhole name most old new bytes = (log : List Read) × (room : ℕ) × HasGiven name most old log bytes × (0 < room) × (new ≡ last_read name most bytes room ++ log)

-- It went by reads that gave some bytes of the file, fewer than `most`, and then by one that failed.
abbrev pub IsCutShort : List ℕ → ℕ → List Read → List Read → Type 0
IsCutShort name most old new =
    (log : List Read) × (bytes : List ℕ) × (room : ℕ) × HasGiven name most old log bytes × (length bytes < most) × (new ≡ (name, length bytes, room, None) ∷ log)

-- It went by reads that gave some bytes of the file, at most `most`, or by none.
abbrev pub IsBegun : List ℕ → ℕ → List Read → List Read → Type 0
IsBegun name most old new = (bytes : List ℕ) × HasGiven name most old new bytes

-- What reading a file whole, or its first `most` bytes, leaves in the log: all reads where it went well; at a fault those before the
-- failed one, and it; for want of memory some of them.
abbrev pub IsReading : List ℕ → ℕ → List Read → List Read → Result (List ℕ) (Refusal Failed) → Type 0
IsReading name most old new (Ok bytes) = IsWhole name most old new bytes
IsReading name most old new (Err (Fault failed)) = IsCutShort name most old new
IsReading name most old new (Err Memory) = IsBegun name most old new
