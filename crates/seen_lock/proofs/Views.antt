-- A seat as contracts see it, and what it knows.
use Rattle.std.proofs.Common.{◌≡◌, ℕ, List, [], ◌∷◌, false, true≢false, sym, refl, ap, ◌∙◌}
use Rattle.seen_lock.specs.declared.known.Known.{Known}
use Rattle.seen_lock.specs.Views.{LockId, SeatView, is_held, seen_in, own_in, seat_view}
use Rattle.seen_lock.specs.Seats.{IsReady, IsWhole}

module _ {E : Type 0} where
  -- a seat that isn't held knows something
  pub knows : (views : List (Known E)) → is_held views ≡ false → (v : Known E) × (views ≡ v ∷ [])
  knows [] e = absurd (true≢false e)
  knows (v ∷ []) e = (v, refl)
  knows (v ∷ w ∷ vs) e = absurd (true≢false e)

  -- the seat that a model's fields are a view of, and what it knows
  pub record Knows (s : SeatView E) (views : List (Known E)) (v : Known E) : Type 0 where
    pub is : views ≡ v ∷ []
    pub number : v.number ≡ s.number
    pub seen : v.seen ≡ s.seen
    pub own : v.own ≡ s.own
    pub waits : v.waits ≡ false
    pub holds : v.holds ≡ false
    pub whole : IsWhole v

  pub known_of : (s : SeatView E) (lock : LockId) (number : ℕ) (views : List (Known E)) (v : Known E)
      → seat_view lock number views ≡ s → IsReady views number → views ≡ v ∷ [] → Knows s views v
  known_of s lock number views v view ready is =
      let r = ready v is in record {
        is = is;
        number = r.3 ∙ ap (λ (q : SeatView E). q.number) view;
        seen = sym (ap seen_in is) ∙ ap (λ (q : SeatView E). q.seen) view;
        own = sym (ap own_in is) ∙ ap (λ (q : SeatView E). q.own) view;
        waits = r.0;
        holds = r.1;
        whole = r.2;
      }

  -- what a seat that isn't held knows
  pub one_view : (s : SeatView E) (lock : LockId) (number : ℕ) (views : List (Known E))
      → seat_view lock number views ≡ s → s.held ≡ false → (v : Known E) × (views ≡ v ∷ [])
  one_view s lock number views view free = knows views (ap (λ (q : SeatView E). q.held) view ∙ free)
