-- The first file of a name: what is held under the name, which of its reads go well, and what a read leaves.
use Rattle.std.proofs.Common.{◌≡◌, ℕ, zero, suc, ◌+◌, ◌<◌, true, false, Bool, ◌||◌, not, if◌then◌else◌, List, [], ◌∷◌, map, length, take, set, get_or, refl, ap, sym, ◌∙◌, add-one, arith}
use Rattle.std.specs.Prelude.{Option, Some, None, IfSome}
use Rattle.std.specs.List.{list_any}
use Rattle.std.specs.Option.{option_map, option_map_or}
use Rattle.shelf_io.specs.declared.mem_shelf.ShelfFile.{ShelfFile}
use Rattle.shelf_io.specs.Causes.{next_count}
use Rattle.shelf_io.specs.Pieces.{file_named}
use Rattle.shelf_io.specs.Held.{entry_of, has_name, first_named, IsFirst, read_once, read_first, fails_next, reads_well, IsSteadyFile}
use Rattle.shelf_io.proofs.SinkLemmas.{not_listed}

neither : (p q : Bool) → (p || q) ≡ false → (p ≡ false) × (q ≡ false)
neither false q e = (refl, e)
neither true q e = absurd (cc)

-- what the shelf tells of a name is what the first file of the name holds
pub told_of_first : (name : List ℕ) (files : List ShelfFile) → file_named name (map entry_of files) ≡ option_map (λ file. file.bytes) (first_named name files)
told_of_first name [] = refl
told_of_first name (file ∷ files) = elim (has_name name file) as
    (λ b. (if b then Some file.bytes else file_named name (map entry_of files)) ≡ option_map (λ f. f.bytes) (if b then Some file else first_named name files)) [
      | true ↦ refl
      | false ↦ told_of_first name files
    ]

found : (name : List ℕ) (files : List ShelfFile) (at : ℕ) (d : ShelfFile) → at < length files → list_any (has_name name) (take at files) ≡ false → has_name name (get_or files at d) ≡ true
    → (first_named name files ≡ Some (get_or files at d)) × (read_first name files ≡ set files at (read_once (get_or files at d)))
found name [] at d within before here = absurd (omega (arith, within))
found name (file ∷ files) zero d within before here = (rw here refl, rw here refl)
found name (file ∷ files) (suc at) d within before here =
    let parts = neither (has_name name file) (list_any (has_name name) (take at files)) before in
    let later = found name files at d (omega (arith, within)) parts.1 here in
    (rw parts.0 later.0, rw parts.0 (ap (λ fs. file ∷ fs) later.1))

-- it is the file at this place
pub first_at : (name : List ℕ) (files : List ShelfFile) (at : ℕ) (d : ShelfFile) → IsFirst name files at → first_named name files ≡ Some (get_or files at d)
first_at name files at d first = (found name files at d first.within first.before (first.here d)).0

-- and the read counts there
pub read_at_first : (name : List ℕ) (files : List ShelfFile) (at : ℕ) (d : ShelfFile) → IsFirst name files at → read_first name files ≡ set files at (read_once (get_or files at d))
read_at_first name files at d first = (found name files at d first.within first.before (first.here d)).1

-- no file has the name
pub not_found : (name : List ℕ) (files : List ShelfFile) → list_any (has_name name) files ≡ false → (first_named name files ≡ None) × (read_first name files ≡ files)
not_found name [] none = (refl, refl)
not_found name (file ∷ files) none =
    let parts = neither (has_name name file) (list_any (has_name name) files) none in
    let later = not_found name files parts.1 in
    (rw parts.0 later.0, rw parts.0 (ap (λ fs. file ∷ fs) later.1))

-- a read changes nothing of what is held
pub same_entries : (name : List ℕ) (files : List ShelfFile) → map entry_of (read_first name files) ≡ map entry_of files
same_entries name [] = refl
same_entries name (file ∷ files) = elim (has_name name file) as
    (λ b. map entry_of (if b then read_once file ∷ files else file ∷ read_first name files) ≡ entry_of file ∷ map entry_of files) [
      | true ↦ refl
      | false ↦ ap (λ es. entry_of file ∷ es) (same_entries name files)
    ]

no_bytes : (o : Option ShelfFile) → option_map (λ file. file.bytes) o ≡ None → option_map_or (λ file. not (fails_next file)) o false ≡ false
no_bytes None e = refl
no_bytes (Some file) e = absurd (cc)

-- a read of a missing file fails
pub missing_fails : (name : List ℕ) (files : List ShelfFile) → file_named name (map entry_of files) ≡ None → reads_well name files ≡ false
missing_fails name files missing = no_bytes (first_named name files) (sym (told_of_first name files) ∙ missing)

no_file : (o : Option ShelfFile) → IfSome o IsSteadyFile → option_map_or (λ file. not (fails_next file)) o false ≡ false → option_map (λ file. file.bytes) o ≡ None
no_file None steady fails = refl
no_file (Some file) steady fails = let behind = not_listed file.failing (next_count file.reads) steady in absurd (cc)

-- of a steady file no read fails: there is none of the name
pub steady_misses : (name : List ℕ) (files : List ShelfFile) → IfSome (first_named name files) IsSteadyFile → reads_well name files ≡ false → file_named name (map entry_of files) ≡ None
steady_misses name files steady fails = told_of_first name files ∙ no_file (first_named name files) steady fails

steady_once : (file : ShelfFile) → IsSteadyFile file → IsSteadyFile (read_once file)
steady_once file steady k d within = let below = steady k d within in omega (arith, below)

read_there : (other : List ℕ) (file : ShelfFile) (files : List ShelfFile) → IfSome (first_named other (file ∷ files)) IsSteadyFile → IfSome (first_named other (read_once file ∷ files)) IsSteadyFile
read_there other file files = elim (has_name other file) as
    (λ b. IfSome (if b then Some file else first_named other files) IsSteadyFile → IfSome (if b then Some (read_once file) else first_named other files) IsSteadyFile) [
      | true ↦ steady_once file
      | false ↦ λ steady. steady
    ]

read_behind : (name other : List ℕ) (file : ShelfFile) (files : List ShelfFile) → (IfSome (first_named other files) IsSteadyFile → IfSome (first_named other (read_first name files)) IsSteadyFile)
    → IfSome (first_named other (file ∷ files)) IsSteadyFile → IfSome (first_named other (file ∷ read_first name files)) IsSteadyFile
read_behind name other file files rest = elim (has_name other file) as
    (λ b. IfSome (if b then Some file else first_named other files) IsSteadyFile → IfSome (if b then Some file else first_named other (read_first name files)) IsSteadyFile) [
      | true ↦ λ steady. steady
      | false ↦ rest
    ]

-- a file that is steady stays so at a read of any name
pub steady_stays : (name other : List ℕ) (files : List ShelfFile) → IfSome (first_named other files) IsSteadyFile → IfSome (first_named other (read_first name files)) IsSteadyFile
steady_stays name other [] = λ steady. steady
steady_stays name other (file ∷ files) = elim (has_name name file) as
    (λ b. IfSome (first_named other (file ∷ files)) IsSteadyFile → IfSome (first_named other (if b then read_once file ∷ files else file ∷ read_first name files)) IsSteadyFile) [
      | true ↦ read_there other file files
      | false ↦ read_behind name other file files (steady_stays name other files)
    ]

-- one more that fails a test behind some that do
pub none_more : (p : ShelfFile → Bool) (files : List ShelfFile) (at : ℕ) (d : ShelfFile) → at < length files → list_any p (take at files) ≡ false → p (get_or files at d) ≡ false → list_any p (take (at + 1) files) ≡ false
none_more p [] at d within before here = absurd (omega (arith, within))
none_more p (file ∷ files) zero d within before here = rw here refl
none_more p (file ∷ files) (suc at) d within before here =
    let parts = neither (p file) (list_any p (take at files)) before in
    rw (add-one, parts.0) (let later = none_more p files at d (omega (arith, within)) parts.1 here in rw add-one at later)
