-- What a commit does to the rows: some pairs go, others come.
use Rattle.std.specs.Prelude.{◌≡◌, ℕ, false, not, List, [], ◌∷◌, ◌++◌, map, filter, fold}
use Rattle.audit_model.specs.declared.verdict.Pair.{Pair}
use Rattle.dirty_board.specs.declared.rows.Row.{Row}
use Rattle.dirty_board.specs.Rows.{below, new_row}
use Rattle.dirty_board.specs.Needing.{is_among}

abbrev pub pairs_of : List Row → List Pair
pairs_of rows = map (λ (r : Row). r.pair) rows

-- the rows without those of the pairs that are gone
abbrev pub without_pairs : List Pair → List Row → List Row
without_pairs gone rows = filter (λ (r : Row). not (is_among gone r.pair)) rows

-- the rows with a new one for the pair, in order
abbrev pub with_pair : List Row → Pair → List Row
with_pair rows p = filter (λ (r : Row). below r.pair p) rows ++ new_row p ∷ filter (λ (r : Row). below p r.pair) rows

-- the rows of the pairs that aren't gone, and new rows for those that came, in order
abbrev pub replaced : List Pair → List Pair → List Row → List Row
replaced gone come rows = fold with_pair (without_pairs gone rows) come

-- these pairs are distinct, and none of them is among `ps`
abbrev pub AreNew : List Pair → List Pair → Type 0
AreNew ps [] = Unit {0}
AreNew ps (q ∷ qs) = (is_among ps q ≡ false) × AreNew (q ∷ ps) qs

-- what contracts see of a room: the pairs that go, those that come, and how many rows there may be before
pub record RoomView : Type 0 where
  pub gone : List Pair
  pub come : List Pair
  pub size : ℕ
