-- From places to lines: what a top call answers.
use Rattle.std.specs.Prelude.{◌≡◌, ℕ, ◌+◌, ◌-◌, min, [], ◌∷◌, Result, Ok, Err, ◌==◌, if◌then◌else◌, length}
use Rattle.ifc_base.specs.declared.memory.Refusal.{Refusal}
use Rattle.ifc_base.specs.declared.memory.Refusal.TheVariants as refusal
use Rattle.reading.specs.declared.stop.Stop.{Stop}
use Rattle.reading.specs.declared.stop.Stop.TheVariants as stop
use Rattle.reading.specs.declared.fault.Fault.{Fault}
use Rattle.reading.specs.Codes.{codes_of}
use Rattle.reading.specs.Reading.{Text, Refused}

-- How many line feeds (10) the text has.
unfoldable pub line_feeds : Text → ℕ
line_feeds [] = 0
line_feeds (c ∷ t) = if c == 10 then 1 + line_feeds t else line_feeds t

-- The line in which `left`, the end of the text, begins: 1 plus the line feeds before it, or 4,294,967,295 where it is past that.
unfoldable pub line_of : Text → Text → ℕ
line_of text left = min (line_feeds text - line_feeds left + 1) 0xFFFF_FFFF

-- The place of the code with which `left`, the end of the text, begins: 1 plus the codes before it, or 4,294,967,295 where it is past that.
unfoldable pub place_of : Text → Text → ℕ
place_of text left = min (length text - length left + 1) 0xFFFF_FFFF

-- A refusal's fault: its cause, and the line in which the refused token begins.
abbrev pub fault_of : {C : Type 0} → Text → Refused C → Fault C
fault_of text r = record { line = line_of text r.at; why = r.why }

-- The value, or the fault.
abbrev pub with_line : {C X : Type 0} → Text → Result X (Refused C) → Result X (Fault C)
with_line text (Ok x) = Ok x
with_line text (Err r) = Err (fault_of text r)

-- What a top call answers where reading stopped.
abbrev pub refusal_of : {C : Type 0} → Text → Stop C → Refusal (Fault C)
refusal_of text stop.Memory = refusal.Memory
refusal_of text (stop.Refused why at) = refusal.Fault (record { line = line_of text (codes_of at.now); why = why })

abbrev pub answer_of : {C X : Type 0} → Text → Result X (Stop C) → Result X (Refusal (Fault C))
answer_of text (Ok x) = Ok x
answer_of text (Err e) = Err (refusal_of text e)

-- The call's answer, seen by `view`, is the value or the fault, unless memory ran out.
abbrev pub Answers : {F X Y : Type 0} → (X → Y) → Result X (Refusal F) → Result Y F → Type 0
Answers view (Ok x) read = read ≡ Ok (view x)
Answers view (Err refusal.Memory) read = Unit {0}
Answers view (Err (refusal.Fault f)) read = read ≡ Err f
