-- What the shelf in memory holds, and which of its reads fail.
use Rattle.std.specs.Prelude.{◌≡◌, ℕ, ◌-◌, ◌<◌, ◌==◌, Bool, true, false, not, List, [], ◌∷◌, length, min, take, map, Option, Some, None, All, IfSome, if◌then◌else◌, slice_index_or}
use Rattle.std.specs.List.{list_any}
use Rattle.std.specs.Option.{option_map_or}
use Rattle.std.specs.Str.{bytes_eq}
use Rattle.shelf_io.specs.declared.mem_shelf.ShelfFile.{ShelfFile}
use Rattle.shelf_io.specs.declared.mem_shelf.MemShelf.{MemShelf}
use Rattle.shelf_io.specs.Causes.{next_count}
use Rattle.shelf_io.specs.Pieces.{Files}
use Rattle.shelf_io.specs.Reads.{Read}

-- a file as a shelf tells it: the characters of its name, and its bytes
abbrev pub entry_of : ShelfFile → List ℕ × List ℕ
entry_of file = (file.name, file.bytes)

-- the files of the shelf, with their reads so far
abbrev pub shelf_files : MemShelf → List ShelfFile
shelf_files shelf = shelf.files.items

-- the files of the shelf as it tells them
abbrev pub entries : MemShelf → Files
entries shelf = map entry_of shelf.files.items

-- how often the shelf has failed
abbrev pub shelf_faults : MemShelf → ℕ
shelf_faults shelf = shelf.faults

-- what the shelf was asked for and what it answered, the newest read first
abbrev pub shelf_reads : MemShelf → List Read
shelf_reads shelf = shelf.log.reads

-- whether the file has this name
abbrev pub has_name : List ℕ → ShelfFile → Bool
has_name name file = bytes_eq file.name name

-- the first file of this name
abbrev pub first_named : List ℕ → List ShelfFile → Option ShelfFile
first_named name [] = None
first_named name (file ∷ files) = if has_name name file then Some file else first_named name files

-- The file at this place is the first of this name.
pub record IsFirst (name : List ℕ) (files : List ShelfFile) (at : ℕ) : Type 0 where
  pub within : at < length files
  pub before : list_any (has_name name) (take at files) ≡ false
  pub here : (d : ShelfFile) → has_name name (slice_index_or files at d) ≡ true

-- how many bytes a read from this place gives into a buffer with this room: as many as stand there and fit
abbrev pub readable : List ℕ → ℕ → ℕ → ℕ
readable bytes from room = min (length bytes - from) room

-- the file after one more read
abbrev pub read_once : ShelfFile → ShelfFile
read_once file = record file { reads = next_count file.reads }

-- the files after a read of this name: it counts at the first file of the name
abbrev pub read_first : List ℕ → List ShelfFile → List ShelfFile
read_first name [] = []
read_first name (file ∷ files) = if has_name name file then read_once file ∷ files else file ∷ read_first name files

-- whether the next read of the file fails: its number, from 1, is among those that fail
abbrev pub fails_next : ShelfFile → Bool
fails_next file = list_any (λ n. n == next_count file.reads) file.failing

-- whether the next read of this name goes well: there is a file of the name, and its next read doesn't fail
abbrev pub reads_well : List ℕ → List ShelfFile → Bool
reads_well name files = option_map_or (λ file. not (fails_next file)) (first_named name files) false

-- No read of the file fails from now on: the numbers that fail are all behind.
abbrev pub IsSteadyFile : ShelfFile → Type 0
IsSteadyFile file = All (λ n. n < next_count file.reads) file.failing

-- No read of the file of this name fails from now on, if there is one.
abbrev pub IsSteady : MemShelf → List ℕ → Type 0
IsSteady shelf name = IfSome (first_named name shelf.files.items) IsSteadyFile
