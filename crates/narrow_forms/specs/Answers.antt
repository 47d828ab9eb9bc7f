-- What a call answers beside what its bytes are read as.
use Rattle.std.specs.Prelude.{Result, Ok, Err, ◌≡◌}
use Rattle.ifc_base.specs.declared.memory.Refusal.{Refusal}
use Rattle.ifc_base.specs.declared.memory.Refusal.TheVariants.{Fault, Memory}

-- The value or the fault that is read. Want of memory says nothing.
abbrev pub Answers : {A F : Type 0} → Result A F → Result A (Refusal F) → Type 0
Answers read (Ok x) = read ≡ Ok x
Answers read (Err (Fault fault)) = read ≡ Err fault
Answers read (Err Memory) = Unit {0}
