-- What contracts see of a journal while it is written: its entries, and for how many there is room.
use Rattle.std.specs.Prelude.{ℕ, List, ◌+◌, ◌≤◌, length}
use Rattle.audit_model.specs.declared.step.StepRec.{StepRec}

-- `entries` has the oldest entry first. `room` is the number of entries that the journal can have without
-- taking memory, those that it has among them.
pub record Written : Type 0 where
  pub entries : List StepRec
  pub room : ℕ

-- there is room for n more entries
abbrev pub HasRoom : ℕ → Written → Type 0
HasRoom n journal = length journal.entries + n ≤ journal.room
