-- A row of flags in blocks of 256, and for each block whether one of its flags may be set.
use Rattle.std.specs.Prelude.{◌≡◌, ℕ, ◌*◌, ◌/◌, ◌+◌, ◌<◌, ◌≤◌, ◌||◌, Bool, true, false, List, length}
use Rattle.std.specs.List.{slice_index_or}

-- where a flag is set, that of its block is
pub record AreBlocks (flags blocks : List Bool) : Type 0 where
  pub long : length flags ≤ 256 * length blocks
  pub shown : (i : ℕ) → slice_index_or flags i false ≡ true → slice_index_or blocks (i / 256) false ≡ true

-- the flag of the block is set, or one at its edges is
abbrev pub is_near : List Bool → List Bool → ℕ → Bool
is_near flags blocks b = slice_index_or blocks b false || (slice_index_or flags (b * 256) false || slice_index_or flags (b * 256 + 255) false)

-- As flags are that moved by one place from the block `from` on: where a flag is set, that of its block is, or one at the block's edges.
pub record AreMoved (flags blocks : List Bool) (from : ℕ) : Type 0 where
  pub before : (i : ℕ) → slice_index_or flags i false ≡ true → i / 256 < from → slice_index_or blocks (i / 256) false ≡ true
  pub edges : (i : ℕ) → slice_index_or flags i false ≡ true → is_near flags blocks (i / 256) ≡ true

-- what contracts see of a row of flags: the flags, and for how many there is memory
pub record FlagsView : Type 0 where
  pub flags : List Bool
  pub places : ℕ
