-- What is read, or the first cause for which it is refused; and what a function answers beside it.
use Rattle.std.specs.Prelude.{◌≡◌, ℕ, Bool, Result, Ok, Err, if◌then◌else◌}
use Rattle.ifc_base.specs.declared.memory.Refusal.{Refusal}
use Rattle.ifc_base.specs.declared.memory.Refusal.TheVariants.{Fault, Memory}
use Rattle.ids_reader.specs.declared.fault.IdsCause.{IdsCause}
use Rattle.ids_reader.specs.declared.fault.IdsFault.{IdsFault}

-- ---- at one place

-- What is read at one place, or the first cause for which it is refused.
abbrev pub Read : Type 0 → Type 0
Read A = Result A IdsCause

-- Reading goes on with what was read; a cause is the last word.
infixl 10 ◌>>=◌
abbrev pub ◌>>=◌ : {A B : Type 0} → Read A → (A → Read B) → Read B
(Ok x) >>= f = f x
(Err why) >>= f = Err why

-- The cause, where the test holds; else what comes next.
abbrev pub refuse_if : {A : Type 0} → Bool → IdsCause → Read A → Read A
refuse_if b why next = if b then Err why else next

-- ---- with the place

-- What is read of a specification or a document, or the first fault with its place.
abbrev pub Placed : Type 0 → Type 0
Placed A = Result A IdsFault

-- A cause at its place: the number of a specification, and that of a facet.
abbrev pub placed : {A : Type 0} → ℕ → ℕ → Read A → Placed A
placed spec place (Ok x) = Ok x
placed spec place (Err why) = Err (record { spec = spec; place = place; why = why })

infixl 10 ◌>>>◌
abbrev pub ◌>>>◌ : {A B : Type 0} → Placed A → (A → Placed B) → Placed B
(Ok x) >>> f = f x
(Err fault) >>> f = Err fault

-- ---- what a function answers

-- What a function returned, seen by a view, is what is read, unless memory ran out.
abbrev pub AnswersBy : {X A F : Type 0} → (X → A) → Result A F → Result X (Refusal F) → Type 0
AnswersBy seen read (Ok x) = read ≡ Ok (seen x)
AnswersBy seen read (Err (Fault fault)) = read ≡ Err fault
AnswersBy seen read (Err Memory) = Unit {0}

-- What a function returned is what is read, unless memory ran out.
abbrev pub Answers : {A F : Type 0} → Result A F → Result A (Refusal F) → Type 0
Answers read (Ok x) = read ≡ Ok x
Answers read (Err (Fault fault)) = read ≡ Err fault
Answers read (Err Memory) = Unit {0}
