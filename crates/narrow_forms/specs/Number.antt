-- A number of a script, read from left to right.
use Rattle.std.specs.Prelude.{ℕ, ◌+◌, ◌*◌, ◌-◌, ◌^◌, List, [], ◌∷◌, Option, Some, None, option_and_then, Result, Ok, Err, ◌≡◌, ◌==◌, nat_lt, if◌then◌else◌}
use Rattle.std.specs.Char.{is_ascii_digit}
use Rattle.ifc_base.specs.declared.memory.Refusal.{Refusal}
use Rattle.ifc_base.specs.declared.memory.Refusal.TheVariants.{Fault, Memory}
use Rattle.narrow_forms.specs.declared.number.OtherForm.{OtherForm}

-- the bytes of a line that are still to be read
abbrev pub Text : Type 0
Text = List ℕ

infixl 10 ◌>>=◌
abbrev pub ◌>>=◌ : {A B : Type 0} → Option A → (A → Option B) → Option B
read >>= f = option_and_then f read

-- What a function returned, seen by view, is what is read, unless memory ran out.
abbrev pub Reads : {X Y : Type 0} → (X → Y) → Result X (Refusal OtherForm) → Option Y → Type 0
Reads view (Ok x) read = read ≡ Some (view x)
Reads view (Err Memory) read = Unit {0}
Reads view (Err (Fault other)) read = read ≡ None

abbrev pub first : Text → Option ℕ
first [] = None
first (b ∷ t) = Some b

-- The number that the digits write behind those that have written n, if it is below 2^31.
unfoldable pub digits : ℕ → Text → Option (ℕ × Text)
digits n [] = Some (n, [])
digits n (b ∷ t) =
    if is_ascii_digit b then (if nat_lt (10 * n + (b - 48)) (2 ^ 31) then digits (10 * n + (b - 48)) t else None)
    else Some (n, b ∷ t)

-- An id: digits without a leading zero.
unfoldable pub number : Text → Option (ℕ × Text)
number [] = None
number (b ∷ t) = if is_ascii_digit b then (if b == 48 then None else digits (b - 48) t) else None

-- what is read, where nothing stands behind it
abbrev pub alone : {A : Type 0} → A → Text → Option A
alone x [] = Some x
alone x (b ∷ t) = None

-- A number, from 1 to 2,147,483,647 without a leading zero, that is all of the text.
unfoldable pub number_of : Text → Option ℕ
number_of t = number t >>= λ read. alone read.0 read.1
