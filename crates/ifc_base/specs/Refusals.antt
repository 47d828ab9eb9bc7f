-- What the answer of a call that may refuse says: a fault has its cause, want of memory says nothing.
use Rattle.std.specs.Prelude.{Result, Ok, Err, IfErr}
use Rattle.ifc_base.specs.declared.memory.Refusal.{Refusal}
use Rattle.ifc_base.specs.declared.memory.Refusal.TheVariants.{Fault, Memory}

-- where the refusal is a fault, it has P
abbrev pub IfFault : {F : Type 0} → Refusal F → (F → Type 0) → Type 0
IfFault (Fault fault) P = P fault
IfFault Memory P = Unit {0}

-- where the call answers a fault, it has P
abbrev pub OnFault : {T F : Type 0} → Result T (Refusal F) → (F → Type 0) → Type 0
OnFault result P = IfErr result (λ refusal. IfFault refusal P)

-- unless the call answers a fault, P holds: at an answer, and at want of memory
abbrev pub UnlessFault : {T F : Type 0} → Result T (Refusal F) → Type 0 → Type 0
UnlessFault (Ok value) P = P
UnlessFault (Err (Fault fault)) P = Unit {0}
UnlessFault (Err Memory) P = P
