-- How a lock ends.
use Rattle.std.proofs.Common.{◌≡◌, ◌≢◌, ℕ, ◌+◌, ◌<◌, ◌≤◌, List, [], ◌∷◌, ◌++◌, length, true, false, sym, refl, ap}
use Rattle.std.proofs.Common.{◌∙◌, subst, arith, drop, Option, Some}
use Rattle.std.proofs.lemmas.List.Elements.{All-cons}
use Rattle.std.specs.List.{All}
use mathlib.Core.Option.{some, some-injective, some-ne-none}
use mathlib.Core.Logic.{dite}
use native.Mathlib.Decide.{ℕ_discrete}
use lib.ListN.{get_elem?}
use Rattle.atomic_table.proofs.Lists.{at_last, at_longer}
use Rattle.atomic_table.specs.Table.{Final, Seen}
use Rattle.ifc_base.specs.Histories.{StartsWith, AreMadeBelow}
use Rattle.seen_lock.specs.declared.known.Known.{Known}
use Rattle.seen_lock.specs.declared.known.Ended.{Ended}
use Rattle.seen_lock.specs.Views.{LockId, SeatView, seat_view}
use Rattle.seen_lock.specs.Seats.{IsReady}
use Rattle.seen_lock.specs.Order.{since, IsHome, Logged, Kept}
use Rattle.seen_lock.specs.Steps.{ended, gathered}
use Rattle.seen_lock.specs.Lists.{IsFree, AreFree, HasAll}
use Rattle.seen_lock.specs.Taken.{ended_seat, AreTaken, IsSame}
use Rattle.seen_lock.proofs.Sums.{same_at}
use Rattle.seen_lock.proofs.Moves.{all_home}
use Rattle.seen_lock.proofs.Views.{Knows, known_of}

module _ {A : Type 0} where
  -- a list by its first element and what is left of it without that
  pub first_and_rest : (items rest : List A) (a : A) → get_elem? items 0 ≡ some a → rest ≡ drop 1 items → items ≡ a ∷ rest
  first_and_rest [] rest a e d = absurd (some-ne-none a (sym e))
  first_and_rest (x ∷ xs) rest a e d = ap (λ y. y ∷ xs) (some-injective x a e) ∙ ap (λ l. a ∷ l) (sym d)

  pub popped : (all front old rest : List A) (s : A) → all ≡ old ++ rest → old ≡ front ++ s ∷ [] → all ≡ (front ++ s ∷ []) ++ rest
  popped all front old rest s e f = e ∙ ap (λ l. l ++ rest) f

some_same : {A : Type 0} (a b : A) → Some a ≡ Some b → a ≡ b
some_same a b e = cc

module _ {E : Type 0} where
  -- the last of the seats at the front has the number of its place
  pub free_at : (lock : LockId) (from : ℕ) (front rest : List (SeatView E)) (s : SeatView E)
      → AreFree lock from ((front ++ s ∷ []) ++ rest)
      → IsFree lock (from + length front) s
  free_at lock from [] rest s free = (free.0.0, free.0.1 ∙ (omega arith), free.0.2)
  free_at lock from (x ∷ front) rest s free =
      let t = free_at lock (from + 1) front rest s free.1 in (t.0, t.1 ∙ (omega arith), t.2)

  taken_more : (v now w : Known E) (seats : List (SeatView E)) → now ≡ gathered v w → AreTaken v seats → AreTaken now seats
  taken_more v now w [] e t = tt
  taken_more v now w (s ∷ seats) e t =
      let h = t.0 in (
        (h.0, ap (λ (k : Known E). get_elem? k.gone h.0) e ∙ at_longer v.gone (ended w ∷ []) h.0 (ended_seat s) h.1),
        taken_more v now w seats e t.1,
      )

  -- the first seat has taken in one more
  pub takes_in : (v now w : Known E) (s : SeatView E) (views : List (Known E)) (seats : List (SeatView E))
      → now ≡ gathered v w → Knows s views w
      → AreTaken v seats → AreTaken now (s ∷ seats)
  takes_in v now w s views seats e knows t =
      let same : ended w ≡ ended_seat s =
      λ i. record { number = knows.number i; seen = knows.seen i; own = knows.own i } in (
        (
          length v.gone,
          ap (λ (k : Known E). get_elem? k.gone (length v.gone)) e
              ∙ at_last v.gone (ended w) (length v.gone) refl ∙ ap (λ (k : Ended E). some k) same,
        ),
        taken_more v now w seats e t,
      )

  pub same_now : (v w x now : Known E) → IsSame v w → now ≡ gathered w x → IsSame v now
  same_now v w x now s e = subst (IsSame v) (sym e) (ap (λ (k : Known E). gathered k x) s)

  -- each seat of these numbers is among those taken in
  took_in : (lock : LockId) (from : ℕ) (seats : List (SeatView E)) (v : Known E) → AreFree lock from seats → AreTaken v seats
      → (j : ℕ) → from ≤ j → j < from + length seats → (i : ℕ) × (x : Ended E) × (get_elem? v.gone i ≡ some x) × (x.number ≡ j)
  took_in lock from [] v free taken j low high = absurd (omega arith)
  took_in lock from (s ∷ seats) v free taken j low high = dite (ℕ_discrete j from)
      (λ here. (taken.0.0, ended_seat s, taken.0.1, free.0.1 ∙ sym here))
      (λ ne. took_in lock (from + 1) seats v free.1 taken.1 j (omega arith) (omega arith))

module _ {E : Type 0} (maker : E → ℕ) (from : ℕ) (log : List E) where
  -- what the last history is to a seat
  abbrev pub Has : SeatView E → Type 0
  Has s = StartsWith log s.seen × (since maker from s.number log ≡ s.own)

  taken_have : (views : List (Known E)) (id : ℕ) (v : Known E) (seats : List (SeatView E)) → Logged maker from log views
      → get_elem? views id ≡ some v → AreTaken v seats → All Has seats
  taken_have views id v [] logged at taken = λ i d low. absurd (omega arith)
  taken_have views id v (s ∷ seats) logged at taken =
      let t = taken.0 in
      let o = logged.gone id v at t.0 (ended_seat s) t.1 in
      All-cons Has s seats (o.seen, o.own) (taken_have views id v seats logged at taken.1)

  -- what it is to all of them
  each_has : (views : List (Known E)) (id : ℕ) (u v : Known E) (known : List (Known E)) (s : SeatView E)
      (seats : List (SeatView E))
      → Logged maker from log views → get_elem? views id ≡ some v → v.live ≡ true → Knows s known u → IsSame u v
      → AreTaken v seats
      → All Has (s ∷ seats)
  each_has views id u v known s seats logged at live knows same taken =
      let me = logged.live id v at live in
      let number : id ≡ s.number = sym me.number ∙ ap (λ (k : Known E). k.number) same ∙ knows.number in
      All-cons Has s seats (
        subst (StartsWith log) (ap (λ (k : Known E). k.seen) same ∙ knows.seen) me.seen,
        ap (λ n. since maker from n log) (sym number) ∙ me.own ∙ ap (λ (k : Known E). k.own) same ∙ knows.own,
      ) (taken_have views id v seats logged at taken)

module _ {S E : Type 0} (entries : S → List E) (maker : E → ℕ) (fits : S → Type 0) (first : List E) where
  -- what is left in the slot
  pub record Ends (xs : List (Option S)) (seats : List (SeatView E)) : Type 0 where
    pub state : S
    pub is : get_elem? xs 0 ≡ some (Some state)
    pub fit : fits state
    pub history : HasAll maker first (entries state) seats

  pub ends : (lock : LockId) (count id : ℕ) (s : SeatView E) (seats : List (SeatView E)) (known : List (Known E))
      (u v : Known E) (words : List ℕ)
      (xs : List (Option S)) → length (s ∷ seats) ≡ count → AreFree lock 0
      (s ∷ seats) → Knows s known u → IsSame u v → AreTaken v seats
      → Final (Seen (Kept entries maker fits first count) id v) words xs → Ends xs (s ∷ seats)
  ends lock count id s seats known u v words xs many free knows same taken f =
      let k = f.1.0 in
      let at = f.1.1 in
      let w = knows.whole.2 (knows.number ∙ free.0.1) in
      let idle : v.holds ≡ false = ap (λ (q : Known E). q.holds) same ∙ knows.holds in
      let live : v.live ≡ true = ap (λ (q : Known E). q.live) same ∙ knows.whole.0 in
      let makes : v.makes ≡ true = ap (λ (q : Known E). q.makes) same ∙ w.0 in
      let made : v.made ≡ v.count =
      ap (λ (q : Known E). q.made) same ∙ w.1 ∙ sym (ap (λ (q : Known E). q.count) same) in
      let total : v.made ≡ length (s ∷ seats) = made ∙ k.counted id v at live ∙ sym many in
      let mine = k.logged.makes id v at makes in
      let home : IsHome entries fits k.turn k.log f.0.homes f.0.views =
      all_home entries maker fits first count id v f.0 k at idle makes
      (λ j low apart. let apart_0 : j ≢ 0 = λ e. apart (e ∙ sym mine.0) in
      took_in lock 1 seats v free.1 taken j (omega arith) (omega arith)) in
      let history : HasAll maker first k.log (s ∷ seats) = record {
        begun = k.begun;
        each = each_has maker (length first) k.log f.0.views id u v known s seats k.logged at live knows same taken;
        below = subst (λ n. AreMadeBelow maker n (drop (length first) k.log)) (sym mine.1 ∙ total) k.logged.below;
      } in record {
        state = home.state;
        is = f.4 0 (Some home.state) (ap (λ l. get_elem? l 0) home.is);
        fit = home.fit;
        history = subst (λ l. HasAll maker first l (s ∷ seats)) (sym home.history) history;
      }

  -- the same, where all seats stand in one list
  pub closes : (lock : LockId) (count id number : ℕ) (z : LockId) (s : SeatView E) (all seats : List (SeatView E))
      (known : List (Known E))
      (u v : Known E) (words : List ℕ) (xs : List (Option S)) → length all ≡ count → AreFree lock 0 all → get_elem? all 0 ≡ some s
      → seats ≡ drop 1 all → seat_view z number known ≡ s → IsReady known number → known ≡ u ∷ [] → IsSame u v → AreTaken v seats
      → Final (Seen (Kept entries maker fits first count) id v) words xs → Ends xs all
  closes lock count id number z s all seats known u v words xs many free here rest view ready is same taken f =
      let whole : all ≡ s ∷ seats = first_and_rest all seats s here rest in
      subst (Ends xs) (sym whole) (
      ends lock count id s seats known u v words xs (ap (λ l. length l) (sym whole) ∙ many) (subst (AreFree lock 0) whole free)
      (known_of s z number known u view ready is) same taken f
      )

  -- what is moved out of the slot is that state
  pub taken : (xs : List (Option S)) (seats : List (SeatView E)) (x : Option S) (e : Ends xs seats) → get_elem? xs 0 ≡ some x
      → x ≡ Some e.state
  taken xs seats x e at = same_at xs 0 x (Some e.state) at e.is

  pub state_is : (xs : List (Option S)) (seats : List (SeatView E)) (x : Option S) (z : S) (e : Ends xs seats)
      → get_elem? xs 0 ≡ some x → x ≡ Some z
      → e.state ≡ z
  state_is xs seats x z e at is = some_same e.state z (sym (taken xs seats x e at) ∙ is)
