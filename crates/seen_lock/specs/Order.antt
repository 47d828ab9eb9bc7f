-- The rule of the lock's table: what holds between any two steps. Word 0 is the turn, word 1 the next ticket, word 2 the
-- length of the history; slot 0 has the state. The numbers in the views may be any: only the words wrap. The rule, `Kept`, says
-- where the numbers are (`Tickets`), where the state is and what its history is (`Slotted`), and what each seat knows (`Logged`).
use Rattle.std.specs.Prelude.{◌≡◌, ◌≢◌, ◌⊎◌, ℕ, ◌+◌, ◌%◌, ◌<◌, ◌≤◌, List, [], ◌∷◌, length, true, false, cond, Option, Some}
use mathlib.Core.Option.{Option as Home, none, some}
use lib.ListN.{get_elem?}
use Rattle.ifc_base.specs.Histories.{StartsWith, entries_since, entries_of, AreMadeBelow}
use Rattle.atomic_table.specs.Table.{State}
use Rattle.seen_lock.specs.declared.known.Known.{Known}
use Rattle.seen_lock.specs.declared.known.Ended.{Ended}

-- a word counts modulo this, 2 to the 64
abbrev pub modulus : ℕ
modulus = 18446744073709551616

-- the sum of what f gives of each
abbrev pub total : {A : Type 0} → (A → ℕ) → List A → ℕ
total f [] = 0
total f (x ∷ xs) = f x + total f xs

module _ {E : Type 0} where
  -- 1 for a view that has drawn a number and not passed
  abbrev pub waiting : Known E → ℕ
  waiting v = cond v.waits 1 0

  -- The numbers from the turn up to below the next ticket are held by the views, each by one, `who` of the number. There are as
  -- many of them as views that wait.
  pub record Tickets (turn ticket : ℕ) (views : List (Known E)) : Type 0 where
    pub who : ℕ → ℕ
    pub count : turn + total waiting views ≡ ticket
    pub held : (j : ℕ) (v : Known E) → get_elem? views j ≡ some v → v.waits ≡ true →
        (turn ≤ v.ticket) × (v.ticket < ticket) × (who v.ticket ≡ j)
    pub each : (x : ℕ) → turn ≤ x → x < ticket →
        (v : Known E) × (get_elem? views (who x) ≡ some v) × (v.waits ≡ true) × (v.ticket ≡ x)

  -- no seat but this one holds the slot
  abbrev pub NoOther : ℕ → List (Known E) → Type 0
  NoOther id views = (j : ℕ) (v : Known E) → j ≢ id → get_elem? views j ≡ some v → v.holds ≡ false

  -- no seat holds the slot
  abbrev pub NoOne : List (Known E) → Type 0
  NoOne views = (j : ℕ) (v : Known E) → get_elem? views j ≡ some v → v.holds ≡ false

  -- the seat has noted that it has the turn, and has seen all
  pub record Holds (turn : ℕ) (log : List E) (v : Known E) : Type 0 where
    pub holds : v.holds ≡ true
    pub waits : v.waits ≡ true
    pub live : v.live ≡ true
    pub ticket : v.ticket ≡ turn
    pub seen : v.seen ≡ log

module _ {S E : Type 0} (entries : S → List E) (fits : S → Type 0) (turn : ℕ) (log : List E)
    (homes : List (Home (Option S))) (views : List (Known E)) where
  -- the slot is at home, and holds a state whose history is the log and whose ground fits
  pub record IsHome : Type 0 where
    pub state : S
    pub is : homes ≡ some (Some state) ∷ []
    pub history : entries state ≡ log
    pub fit : fits state
    pub free : NoOne views

  -- the slot is out with the one seat that has the turn and has noted it
  pub record IsOut : Type 0 where
    pub is : homes ≡ none ∷ []
    pub id : ℕ
    pub view : Known E
    pub at : get_elem? views id ≡ some view
    pub held : Holds turn log view
    pub others : NoOther id views

  -- the state is in one of these two places
  abbrev pub Slotted : Type 0
  Slotted = IsHome ⊎ IsOut

module _ {E : Type 0} (maker : E → ℕ) where
  -- the entries of a seat behind the first so many
  abbrev pub since : ℕ → ℕ → List E → List E
  since from number log = entries_of maker number (entries_since from log)

  module _ (from : ℕ) (log : List E) (views : List (Known E)) where
    -- what is kept of a seat that has ended is true of the log, and the seat lives no more
    pub record IsEnded (g : Ended E) : Type 0 where
      pub seen : StartsWith log g.seen
      pub own : since from g.number log ≡ g.own
      pub made : g.number < length views
      pub ended : (u : Known E) → get_elem? views g.number ≡ some u → u.live ≡ false

    -- a seat's number is its place in the table, so no two have the same; what it knows is true of the log
    pub record IsLive (id : ℕ) (v : Known E) : Type 0 where
      pub number : v.number ≡ id
      pub seen : StartsWith log v.seen
      pub own : since from id log ≡ v.own

    -- Each entry of the log, behind those of the start, is of a seat that was made; each seat knows a front of the log and its
    -- own entries; the seat that makes others is the first, and knows how many there are.
    pub record Logged : Type 0 where
      pub long : from ≤ length log
      pub below : AreMadeBelow maker (length views) (entries_since from log)
      pub live : (j : ℕ) (v : Known E) → get_elem? views j ≡ some v → v.live ≡ true → IsLive j v
      pub gone : (j : ℕ) (v : Known E) → get_elem? views j ≡ some v → (i : ℕ) (g : Ended E) → get_elem? v.gone i ≡ some g
          → IsEnded g
      pub makes : (j : ℕ) (v : Known E) → get_elem? views j ≡ some v → v.makes ≡ true → (j ≡ 0) × (v.made ≡ length views)

-- the first seat of a lock
abbrev pub newcomer : {E : Type 0} → List E → ℕ → Known E
newcomer seen count = record {
  waits = false;
  ticket = 0;
  holds = false;
  live = true;
  number = 0;
  seen = seen;
  own = [];
  makes = true;
  made = 1;
  count = count;
  gone = [];
}

-- each seat knows how many there are to be in all
abbrev pub Counted : {E : Type 0} → ℕ → List (Known E) → Type 0
Counted {E} seats views = (j : ℕ) (v : Known E) → get_elem? views j ≡ some v → v.live ≡ true → v.count ≡ seats

-- the rule, of a lock that began with the history `first` and is to have so many seats; `fits` says of a state that its ground is
-- that of the start
pub record Kept {S E : Type 0} (entries : S → List E) (maker : E → ℕ) (fits : S → Type 0) (first : List E) (seats : ℕ)
    (s : State (Option S) (Known E)) : Type 0 where
  pub turn : ℕ
  pub ticket : ℕ
  -- the entries at the start, and then one for each step that adds
  pub log : List E
  pub words : s.words ≡ turn % modulus ∷ ticket % modulus ∷ length log % modulus ∷ []
  pub few : length s.views < modulus
  pub tickets : Tickets turn ticket s.views
  pub slot : Slotted entries fits turn log s.homes s.views
  pub begun : StartsWith log first
  pub logged : Logged maker (length first) log s.views
  pub counted : Counted seats s.views
