-- What is read of lines.
use Rattle.std.specs.Prelude.{ℕ, List, Result, Ok, Err, ◌≡◌}
use Rattle.std.specs.Borrow.{Bor}
use Rattle.ifc_base.specs.declared.memory.Refusal.{Refusal}
use Rattle.ifc_base.specs.declared.memory.Refusal.TheVariants.{Fault, Memory}
use Rattle.narrow_forms.specs.declared.fault.LineFault.{LineFault}
use Rattle.narrow_forms.specs.Lines.{Lines, cut, line_at}

-- What is read of lines, or the lines from the first one that is refused.
abbrev pub Read : Type 0 → Type 0
Read A = Result A Lines

infixl 10 ◌>>=◌
abbrev pub ◌>>=◌ : {A B : Type 0} → Read A → (A → Read B) → Read B
(Ok x) >>= f = f x
(Err rest) >>= f = Err rest

-- What a function returned, seen by view, is what is read, unless memory ran out.
abbrev pub Gives : {X Y : Type 0} → (X → Y) → Result X (Refusal (Bor (List ℕ))) → Read Y → Type 0
Gives view (Ok x) read = read ≡ Ok (view x)
Gives view (Err Memory) read = Unit {0}
Gives view (Err (Fault rest)) read = read ≡ Err (cut rest.now)

abbrev pub with_line : {A : Type 0} → List ℕ → Read A → Result A LineFault
with_line bytes (Ok x) = Ok x
with_line bytes (Err rest) = Err (line_at bytes rest)
