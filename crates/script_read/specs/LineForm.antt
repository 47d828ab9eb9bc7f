-- What a line says, if it is of one of the forms: the table of the lines of a script as a function.
use Rattle.std.specs.Prelude.{ℕ, Bool, not, ◌&&◌, List, [], ◌∷◌, ◌++◌, length, take, drop, Option, Some, None, option_map, option_and_then, ◌==◌, codes, if◌then◌else◌}
use Rattle.std.specs.Char.{is_ascii_digit}
use Rattle.std.specs.Option.{option_or}
use Rattle.std.specs.Result.{result_ok}
use Rattle.std.specs.Str.{bytes_eq, is_utf8}
use Rattle.audit_model.specs.declared.commit.Edit.TheVariants.{Add, Set, Remove}
use Rattle.audit_model.specs.declared.script.Act.{Act}
use Rattle.audit_model.specs.declared.script.Act.TheVariants.{Begin, Change, Commit, Publish, Take, Give, Work}
use Rattle.ifc_base.specs.declared.value.Instance.{Instance}
use Rattle.ifc_base.specs.declared.value.Value.{Value}
use Rattle.p21_read.specs.Readings.{instance_reading, value_reading}
use Rattle.p21_read.specs.TokenGrammar.{number_of}
use Rattle.reading.specs.Runs.{run}
use Rattle.script_read.specs.Said.{Said, nothing, editor, does, sync, is_blank, is_name, is_work, is_id, begins_with, is_empty}

-- what is read at the front, and what is left
abbrev pub Front : Type 0 → Type 0
Front A = Option (A × List ℕ)

infixl 10 ◌>>=◌
abbrev pub ◌>>=◌ : {A B : Type 0} → Option A → (A → Option B) → Option B
read >>= f = option_and_then f read

-- what stands behind the word at the front
unfoldable pub behind : List ℕ → List ℕ → Option (List ℕ)
behind word text = if bytes_eq (take (length word) text) word then Some (drop (length word) text) else None

-- behind one blank
unfoldable pub behind_blank : List ℕ → Option (List ℕ)
behind_blank [] = None
behind_blank (b ∷ t) = if is_blank b then Some t else None

unfoldable pub past_blanks : List ℕ → List ℕ
past_blanks [] = []
past_blanks (b ∷ t) = if is_blank b then past_blanks t else b ∷ t

-- behind one or more blanks
unfoldable pub spaced : List ℕ → Option (List ℕ)
spaced t = option_map past_blanks (behind_blank t)

abbrev pub some_run : {A : Type 0} → (List ℕ → A) → List ℕ × List ℕ → Front A
some_run f ([], t) = None
some_run f (c ∷ cs, t) = Some (f (c ∷ cs), t)

-- the number of one or more digits
unfoldable pub number : List ℕ → Front ℕ
number t = some_run number_of (run is_ascii_digit t)

abbrev pub only_if : {A : Type 0} → Bool → A → Option A
only_if b x = if b then Some x else None

abbrev pub id_of : ℕ × List ℕ → Front ℕ
id_of x = only_if (is_id x.0) x

-- `#` and the number of an instance
unfoldable pub id : List ℕ → Front ℕ
id [] = None
id (c ∷ t) = if c == 35 then number t >>= id_of else None

-- the name of an attribute
unfoldable pub attribute : List ℕ → Front (List ℕ)
attribute [] = None
attribute (c ∷ t) = if is_ascii_digit c then None else some_run (λ name. name) (run is_name (c ∷ t))

-- what is read, where nothing stands behind it
abbrev pub alone : {A : Type 0} → A × List ℕ → Option A
alone (x, []) = Some x
alone (x, b ∷ t) = None

-- ---- what stands behind the words

unfoldable pub editor_line : List ℕ → Option Said
editor_line t = spaced t >>= number >>= alone >>= λ k. Some (editor k)

abbrev pub work_of : ℕ → Option Act
work_of n = only_if (is_work n) (Work n)

unfoldable pub times : List ℕ → Option ℕ
times t = if begins_with 48 t then None else number t >>= alone

unfoldable pub work_line : List ℕ → Option Act
work_line t = spaced t >>= times >>= work_of

unfoldable pub remove_line : List ℕ → Option Act
remove_line t = spaced t >>= id >>= alone >>= λ n. Some (Change (Remove n))

-- the instance that the text spells
abbrev pub instance_in : List ℕ → Option Instance
instance_in text = result_ok (instance_reading text)

-- an instance, whose semicolon may be missing
unfoldable pub added : List ℕ → Option Instance
added text = option_or (instance_in text) (instance_in (text ++ codes ";"))

unfoldable pub add_line : List ℕ → Option Act
add_line t = behind_blank t >>= added >>= λ x. Some (Change (Add x))

-- the value that the text spells
abbrev pub value_in : List ℕ → Option Value
value_in text = result_ok (value_reading text)

abbrev pub set_value : ℕ → List ℕ × List ℕ → Option Act
set_value n name = behind_blank name.1 >>= value_in >>= λ x. Some (Change (Set n name.0 x))

abbrev pub set_attribute : ℕ × List ℕ → Option Act
set_attribute n = spaced n.1 >>= attribute >>= set_value n.0

unfoldable pub set_line : List ℕ → Option Act
set_line t = spaced t >>= id >>= set_attribute

-- ---- lines

-- what is read of what was found, or the other where nothing was
abbrev pub found_or : {A B : Type 0} → Option A → (A → Option B) → Option B → Option B
found_or None f other = other
found_or (Some x) f other = f x

-- a line of one word
unfoldable pub word_line : List ℕ → Option Act
word_line line =
    if bytes_eq line (codes "open") then Some Begin
    else if bytes_eq line (codes "commit") then Some Commit
    else if bytes_eq line (codes "publish") then Some Publish
    else if bytes_eq line (codes "take") then Some Take
    else if bytes_eq line (codes "give") then Some Give
    else None

-- a line of more words that is an act
unfoldable pub longer_line : List ℕ → Option Act
longer_line line =
    found_or (behind (codes "add") line) add_line (
    found_or (behind (codes "set") line) set_line (
    found_or (behind (codes "remove") line) remove_line (
    found_or (behind (codes "work") line) work_line None)))

unfoldable pub act_line : List ℕ → Option Act
act_line line = found_or (word_line line) Some (longer_line line)

unfoldable pub form : List ℕ → Option Said
form line =
    if is_empty line then Some nothing
    else if bytes_eq line (codes "sync") then Some sync
    else found_or (behind (codes "editor") line) editor_line (option_map does (act_line line))

-- What the line says. None is a line that isn't UTF-8 or has none of the forms.
unfoldable pub meaning : List ℕ → Option Said
meaning line = if is_utf8 line then form line else None
