-- The rows of a board: one for each pair, in order, with what is kept of it and whether it is out.
use Rattle.std.specs.Prelude.{◌≡◌, ℕ, suc, Bool, true, false, not, ◌&&◌, ◌||◌, ◌==◌, nat_lt, if◌then◌else◌, List, [], ◌∷◌, Option, Some, None, is_none, map, find}
use Rattle.std.specs.List.{list_any}
use Rattle.std.specs.Option.{option_map}
use Rattle.ifc_base.specs.declared.key.Key.{Key}
use Rattle.ifc_base.specs.KeyOrder.{key_eq}
use Rattle.audit_model.specs.declared.verdict.Pair.{Pair}
use Rattle.audit_model.specs.declared.verdict.Verdict.{Verdict}
use Rattle.audit_model.specs.Pairs.{same_pair}
use Rattle.dirty_board.specs.declared.rows.Row.{Row}
use Rattle.dirty_board.specs.declared.rows.Kept.{Kept}

-- a row of a new pair: nothing is kept of it, and no claim of it is out
abbrev pub new_row : Pair → Row
new_row p = record { pair = p; kept = None; out = false }

-- the pair is unsettled
abbrev pub is_unsettled : Row → Bool
is_unsettled r = is_none r.kept

-- the pair is unsettled and not out
abbrev pub is_claimable : Row → Bool
is_claimable r = is_none r.kept && not r.out

abbrev pub least_unsettled : List Row → Option Pair
least_unsettled rows = option_map (λ (r : Row). r.pair) (find is_unsettled rows)

abbrev pub least_claimable : List Row → Option Pair
least_claimable rows = option_map (λ (r : Row). r.pair) (find is_claimable rows)

-- Changes of one row.

-- the rows with this done to the row of the pair
abbrev pub with_row : Pair → (Row → Row) → List Row → List Row
with_row p f [] = []
with_row p f (r ∷ rs) = if same_pair p r.pair then f r ∷ rs else r ∷ with_row p f rs

-- the rows without that of the pair
abbrev pub without_row : Pair → List Row → List Row
without_row p [] = []
without_row p (r ∷ rs) = if same_pair p r.pair then rs else r ∷ without_row p rs

-- this is kept, or nothing is
abbrev pub holding : Option Kept → Row → Row
holding k r = record { pair = r.pair; kept = k; out = r.out }

-- this is kept
abbrev pub keeping : Kept → Row → Row
keeping k r = record { pair = r.pair; kept = Some k; out = r.out }

-- nothing is kept any more
abbrev pub dropping : Row → Row
dropping r = record { pair = r.pair; kept = None; out = r.out }

-- a claim of the pair is out, or none is
abbrev pub marking : Bool → Row → Row
marking b r = record { pair = r.pair; kept = r.kept; out = b }

-- Keys.

abbrev pub kept_needs : Option Kept → Key → Bool
kept_needs None k = false
kept_needs (Some kept) k = list_any (λ j. key_eq j k) kept.needs

-- what is kept of the row needs the key
abbrev pub needs_key : Key → Row → Bool
needs_key k r = kept_needs r.kept k

-- what is kept is dropped where it needs the key
abbrev pub without_key : Key → Row → Row
without_key k r = if needs_key k r then dropping r else r

-- what is dropped of the row, if there is one, where it needs the key
abbrev pub dropped_in : Key → Option Row → Option Kept
dropped_in k None = None
dropped_in k (Some r) = if needs_key k r then r.kept else None

-- what is kept of one of these pairs is dropped, if it needs the key
abbrev pub dropped_among : List Pair → Key → Row → Row
dropped_among ps k r = if list_any (λ q. same_pair q r.pair) ps then without_key k r else r

abbrev pub unsettled_by : List Key → Row → Row
unsettled_by ks r = if list_any (λ k. needs_key k r) ks then dropping r else r

-- the rows after these keys were changed: what needs one of them is dropped
abbrev pub marked : List Key → List Row → List Row
marked ks rows = map (unsettled_by ks) rows

-- Order: by specification and then by element.

abbrev pub below : Pair → Pair → Bool
below p q = nat_lt p.spec q.spec || (p.spec == q.spec && nat_lt p.elem q.elem)

-- the pairs of these rows come after p
abbrev pub AreAfter : Pair → List Row → Type 0
AreAfter p [] = Unit {0}
AreAfter p (r ∷ rs) = (below p r.pair ≡ true) × AreAfter p rs

abbrev pub AreAscending : List Row → Type 0
AreAscending [] = Unit {0}
AreAscending (r ∷ rs) = AreAfter r.pair rs × AreAscending rs

-- the place of the pair's row, from 0, or none
abbrev pub row_place : Pair → List Row → Option ℕ
row_place p [] = None
row_place p (r ∷ rs) = if same_pair p r.pair then Some 0 else option_map (λ i. suc i) (row_place p rs)

abbrev pub row_at : Pair → List Row → Option Row
row_at p rows = find (λ r. same_pair p r.pair) rows

-- what is kept in the row, if there is one
abbrev pub kept_in : Option Row → Option Kept
kept_in None = None
kept_in (Some r) = r.kept

abbrev pub verdict_of : Option Kept → Option Verdict
verdict_of None = None
verdict_of (Some k) = Some k.verdict

-- the verdict that is kept in the row, if there is one
abbrev pub verdict_kept : Option Row → Option Verdict
verdict_kept None = None
verdict_kept (Some r) = verdict_of r.kept

-- the place of the first flag that is set
abbrev pub first_set : List Bool → Option ℕ
first_set [] = None
first_set (b ∷ bs) = if b then Some 0 else option_map (λ i. suc i) (first_set bs)

-- The rows ascend, and the two rows of flags say of each whether it is unsettled, and whether it can be claimed.
pub record IsTable (rows : List Row) (us cs : List Bool) : Type 0 where
  pub ascending : AreAscending rows
  pub unsettled_is : us ≡ map is_unsettled rows
  pub claimable_is : cs ≡ map is_claimable rows
