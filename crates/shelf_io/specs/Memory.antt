-- What contracts see of the sink in memory, and which of its calls fail.
use Rattle.std.specs.Prelude.{ℕ, ◌+◌, ◌-◌, ◌<◌, ◌≤◌, ◌==◌, ◌&&◌, ◌||◌, Bool, List, length, min, nat_lt, All}
use Rattle.std.specs.List.{list_any}
use Rattle.shelf_io.specs.Causes.{next_count}

-- What was written, the bytes that there is room for in all, the most that a call takes, the calls so
-- far, the numbers of the calls that fail, from 1, and the faults so far.
pub record SinkState : Type 0 where
  pub written : List ℕ
  pub room : ℕ
  pub most : ℕ
  pub calls : ℕ
  pub failing : List ℕ
  pub faults : ℕ

-- how many bytes of a piece of this length the sink takes at once: what the call and the room allow
abbrev pub share_of : SinkState → ℕ → ℕ
share_of sink n = min (min n sink.most) (sink.room - length sink.written)

-- whether the next call fails on a piece of this length: its number is among those that fail, or nothing
-- of a piece that isn't empty can be taken
abbrev pub fails_on : SinkState → ℕ → Bool
fails_on sink n = list_any (λ k. k == next_count sink.calls) sink.failing || (nat_lt 0 n && share_of sink n == 0)

-- No call fails within this many bytes: the numbers that fail are all behind, and there is room.
pub record IsSure (sink : SinkState) (n : ℕ) : Type 0 where
  pub calls : All (λ k. k < next_count sink.calls) sink.failing
  pub room : length sink.written + n ≤ sink.room
