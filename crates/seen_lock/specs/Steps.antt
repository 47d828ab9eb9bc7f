-- What each kind of step makes of a seat's view, and what it tells: of the seat before, the number found, and the seat after.
use Rattle.std.specs.Prelude.{◌≡◌, ◌≢◌, ℕ, ◌+◌, ◌%◌, ◌∷◌, ◌++◌, [], List, true, false, Option, Some}
use Rattle.ifc_base.specs.Histories.{StartsWith}
use Rattle.atomic_table.specs.Table.{Me}
use Rattle.seen_lock.specs.declared.known.Known.{Known}
use Rattle.seen_lock.specs.declared.known.Ended.{Ended}
use Rattle.seen_lock.specs.Order.{modulus, since}

module _ {E : Type 0} where
  -- draw: the seat notes the number
  abbrev pub with_ticket : Known E → ℕ → Known E
  with_ticket v x = record v { waits = true; ticket = x }

  -- look, where the turn is its own: the seat notes this, and the history of the state
  abbrev pub holding : Known E → List E → Known E
  holding v log = record v { holds = true; seen = log }

  -- add: the entries end what the seat has seen and what it made
  abbrev pub added : Known E → List E → Known E
  added v es = record v { seen = v.seen ++ es; own = v.own ++ es }

  -- pass: the seat gives up its number
  abbrev pub passed : Known E → Known E
  passed v = record v { waits = false; holds = false }

  -- make: the first seat, after it has made one more
  abbrev pub with_one_more : Known E → Known E
  with_one_more v = record v { made = v.made + 1 }

  -- the first seat, when there are n seats
  abbrev pub dealer : List E → ℕ → ℕ → Known E
  dealer seen count n = record {
    waits = false;
    ticket = 0;
    holds = false;
    live = true;
    number = 0;
    seen = seen;
    own = [];
    makes = true;
    made = n;
    count = count;
    gone = [];
  }

  -- make: the new seat has the next number, has seen what the first has, and made nothing
  abbrev pub newborn : Known E → Known E
  newborn v = record {
    waits = false;
    ticket = 0;
    holds = false;
    live = true;
    number = v.made;
    seen = v.seen;
    own = [];
    makes = false;
    made = 0;
    count = v.count;
    gone = [];
  }

  -- what is kept of a seat that has ended
  abbrev pub ended : Known E → Ended E
  ended v = record { number = v.number; seen = v.seen; own = v.own }

  -- join: the first seat takes in another
  abbrev pub gathered : Known E → Known E → Known E
  gathered v w = record v { gone = v.gone ++ ended w ∷ [] }

  -- join: what stays in the place of the other
  abbrev pub spent : Known E
  spent = record {
    waits = false;
    ticket = 0;
    holds = false;
    live = false;
    number = 0;
    seen = [];
    own = [];
    makes = false;
    made = 0;
    count = 0;
    gone = [];
  }

module _ {S E : Type 0} where
  -- the number drawn is the one that was found, modulo 2 to the 64
  abbrev pub Drew : Me (Option S) (Known E) → ℕ → Me (Option S) (Known E) → Type 0
  Drew m r n = (x : ℕ) × (n ≡ (with_ticket m.0 x, m.1)) × (r ≡ x % modulus)

  module _ (entries : S → List E) (maker : E → ℕ) (fits : S → Type 0) (from : ℕ) where
    -- the seat v got a state, whose history begins with what it had seen and has of its number, since the start, what it made
    pub record Got (v : Known E) (n : Me (Option S) (Known E)) : Type 0 where
      pub state : S
      pub seat : n ≡ (holding v (entries state), (0, Some state) ∷ [])
      pub fit : fits state
      pub seen : StartsWith (entries state) v.seen
      pub own : since maker from v.number (entries state) ≡ v.own

    -- where its number was found the seat got the state, else nothing changed
    abbrev pub Looked : Me (Option S) (Known E) → ℕ → Me (Option S) (Known E) → Type 0
    Looked m r n = (r ≡ m.0.ticket % modulus → Got m.0 n) × (r ≢ m.0.ticket % modulus → n ≡ m)

  -- the seat made these entries
  abbrev pub Added : List E → Me (Option S) (Known E) → ℕ → Me (Option S) (Known E) → Type 0
  Added es m r n = n ≡ (added m.0 es, m.1)

  -- the seat has neither number nor slot any more
  abbrev pub Passed : Me (Option S) (Known E) → ℕ → Me (Option S) (Known E) → Type 0
  Passed m r n = n ≡ (passed m.0, [])
