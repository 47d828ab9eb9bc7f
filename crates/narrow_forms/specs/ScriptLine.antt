-- What one line of a script says.
use Rattle.std.specs.Prelude.{ℕ, ◌-◌, List, [], ◌∷◌, ◌++◌, length, take, drop, Option, Some, None, option_map, option_and_then, ◌==◌, nat_eq, nat_lt, codes, if◌then◌else◌}
use Rattle.std.specs.Option.{option_or}
use Rattle.std.specs.Result.{result_ok}
use Rattle.std.specs.Str.{bytes_eq}
use Rattle.audit_model.specs.declared.commit.Edit.TheVariants.{Add, Remove}
use Rattle.audit_model.specs.declared.script.Act.{Act}
use Rattle.audit_model.specs.declared.script.Act.TheVariants.{Begin, Change, Commit, Publish, Take, Give, Work}
use Rattle.ifc_base.specs.declared.value.Instance.{Instance}
use Rattle.p21_read.specs.Readings.{instance_reading}
use Rattle.narrow_forms.specs.Number.{number_of}
use Rattle.narrow_forms.specs.declared.script_line.Meaning.{Meaning}
use Rattle.narrow_forms.specs.declared.script_line.Meaning.TheVariants.{Nothing, Does, Ends}

-- a line of the bytes before a line feed: without the carriage return (13) that may stand at its end
unfoldable pub without_return : List ℕ → List ℕ
without_return text = if bytes_eq (drop (length text - 1) text) (13 ∷ []) then take (length text - 1) text else text

-- what stands behind the word at the front
unfoldable pub behind_word : List ℕ → List ℕ → Option (List ℕ)
behind_word word text = if bytes_eq (take (length word) text) word then Some (drop (length word) text) else None

-- the instance that the bytes spell (ISO 10303-21, simple entity instance), if they spell one
abbrev pub spelled : List ℕ → Option Instance
spelled bytes = result_ok (instance_reading bytes)

-- an instance, whose semicolon may be missing
unfoldable pub added : List ℕ → Option Instance
added text = option_or (spelled text) (spelled (text ++ codes ";"))

abbrev pub add_act : List ℕ → Option Act
add_act text = option_map (λ x. Change (Add x)) (added text)

abbrev pub remove_act : List ℕ → Option Act
remove_act text = option_map (λ id. Change (Remove id)) (number_of text)

-- the most times that one line may work
abbrev pub most_work : ℕ
most_work = 1000000

abbrev pub work_of : ℕ → Option Act
work_of n = if nat_lt most_work n then None else Some (Work n)

abbrev pub work_act : List ℕ → Option Act
work_act text = option_and_then work_of (number_of text)

-- a line of one word
unfoldable pub word_act : List ℕ → Option Act
word_act line =
    if bytes_eq line (codes "open") then Some Begin
    else if bytes_eq line (codes "commit") then Some Commit
    else if bytes_eq line (codes "publish") then Some Publish
    else if bytes_eq line (codes "take") then Some Take
    else if bytes_eq line (codes "give") then Some Give
    else None

-- what is read of what was found, or the other where nothing was
abbrev pub found_or : {A B : Type 0} → Option A → (A → Option B) → Option B → Option B
found_or None f other = other
found_or (Some x) f other = f x

-- a line of a word and what it is about
unfoldable pub longer_act : List ℕ → Option Act
longer_act line =
    found_or (behind_word (codes "add ") line) add_act (
    found_or (behind_word (codes "remove #") line) remove_act (
    found_or (behind_word (codes "work ") line) work_act None))

-- What the line says: nothing, where it is empty; what it does; or that it ends its phase. None is a line that is not of the form.
unfoldable pub line_meaning : List ℕ → Option Meaning
line_meaning line =
    if length line == 0 then Some Nothing
    else if bytes_eq line (codes "sync") then Some Ends
    else option_map Does (found_or (word_act line) Some (longer_act line))
