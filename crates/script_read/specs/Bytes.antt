-- What code reads of the bytes of a line.
use Rattle.std.specs.Prelude.{ℕ, ◌+◌, ◌*◌, ◌-◌, min, List, [], ◌∷◌, ◌++◌, Option, Some, None, option_map, Result, Ok, Err, ◌≡◌, if◌then◌else◌}
use Rattle.std.specs.Char.{is_ascii_digit}
use Rattle.ifc_base.specs.declared.memory.Refusal.{Refusal}
use Rattle.ifc_base.specs.declared.memory.Refusal.TheVariants.{Fault, Memory}
use Rattle.script_read.specs.declared.bytes.NoForm.{NoForm}
use Rattle.script_read.specs.Said.{Said, nothing, editor, does, sync, is_editor, is_name}
use Rattle.script_read.specs.LineForm.{Front, number, alone, ◌>>=◌}
use Rattle.script_read.specs.declared.line.Meaning.{Meaning}
use Rattle.script_read.specs.declared.line.Meaning.TheVariants as m

-- What a function returned, seen by view, is what is read, unless memory ran out.
abbrev pub Reads : {X Y : Type 0} → (X → Y) → Result X (Refusal NoForm) → Option Y → Type 0
Reads view (Ok x) read = read ≡ Some (view x)
Reads view (Err Memory) read = Unit {0}
Reads view (Err (Fault other)) read = read ≡ None

abbrev pub first : List ℕ → Option ℕ
first [] = None
first (b ∷ t) = Some b

-- the number of all digits at the front behind those that have written n, and what is left; a number past 4,294,967,295 is that
unfoldable pub counted : ℕ → List ℕ → ℕ × List ℕ
counted n [] = (n, [])
counted n (b ∷ t) = if is_ascii_digit b then counted (min (10 * n + (b - 48)) 0xFFFF_FFFF) t else (n, b ∷ t)

abbrev pub capped : ℕ × List ℕ → ℕ × List ℕ
capped x = (min x.0 0xFFFF_FFFF, x.1)

unfoldable pub capped_number : List ℕ → Front ℕ
capped_number t = option_map capped (number t)

-- the number, where nothing stands behind it
unfoldable pub last_number : List ℕ → Option ℕ
last_number t = option_map (λ n. min n 0xFFFF_FFFF) (number t >>= alone)

-- the letters of a name at the front behind these, and what is left
unfoldable pub gathered : List ℕ → List ℕ → List ℕ × List ℕ
gathered cs [] = (cs, [])
gathered cs (b ∷ t) = if is_name b then gathered (cs ++ b ∷ []) t else (cs, b ∷ t)

-- what a line says, as code has it
abbrev pub as_code : Said → Meaning
as_code nothing = m.Nothing
as_code (editor k) = if is_editor k then m.Editor k else m.Nobody
as_code (does act) = m.Does act
as_code sync = m.Sync

abbrev pub ending : List ℕ → Option (Unit {0})
ending [] = Some tt
ending (b ∷ t) = None
