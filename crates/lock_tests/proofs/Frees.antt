-- Free seats, by their places.
use Rattle.std.proofs.Common.{◌≡◌, ℕ, zero, suc, ◌+◌, ◌<◌, List, [], ◌∷◌, length, ap, ◌∙◌, arith}
use Rattle.std.specs.Prelude.{slice_index_or}
use Rattle.seen_lock.specs.Views.{LockId, SeatView}
use Rattle.seen_lock.specs.Lists.{IsFree, AreFree}

module _ {E : Type 0} (lock : LockId) where
  -- the number of a free seat is known otherwise
  renumbered : (m n : ℕ) (s : SeatView E) → m ≡ n → IsFree lock m s → IsFree lock n s
  renumbered m n s e t = (t.0, t.1 ∙ e, t.2)

  pub each_free : (from : ℕ) (seats : List (SeatView E)) → AreFree lock from seats
      → (i : ℕ) (d : SeatView E) → i < length seats → IsFree lock (from + i) (slice_index_or seats i d)
  each_free from [] free i d low = absurd (omega arith)
  each_free from (s ∷ seats) free zero d low = renumbered from (from + 0) s (omega arith) free.0
  each_free from (s ∷ seats) free (suc i) d low =
      renumbered (from + 1 + i) (from + suc i) (slice_index_or seats i d) (omega arith)
      (each_free (from + 1) seats free.1 i d (omega arith))

  all_free : (from : ℕ) (seats : List (SeatView E))
      → ((i : ℕ) (d : SeatView E) → i < length seats → IsFree lock (from + i) (slice_index_or seats i d))
      → AreFree lock from seats
  all_free from [] each = tt
  all_free from (s ∷ seats) each = (
    renumbered (from + 0) from s (omega arith) (each 0 s (omega arith)),
    all_free (from + 1) seats (λ i d low.
        renumbered (from + suc i) (from + 1 + i) (slice_index_or seats i d) (omega arith) (each (suc i) d (omega arith))),
  )

  -- a seat that is read at a place
  pub free_there : (seats : List (SeatView E)) (i : ℕ) (x : SeatView E) → AreFree lock 0 seats → i < length seats
      → x ≡ slice_index_or seats i x → IsFree lock i x
  free_there seats i x free low is =
      let t = each_free 0 seats free i x low in (
        ap (λ (s : SeatView E). s.lock) is ∙ t.0,
        ap (λ (s : SeatView E). s.number) is ∙ (t.1 ∙ (omega arith)),
        ap (λ (s : SeatView E). s.held) is ∙ t.2,
      )

  -- seats that come back with the numbers of those that were handed out
  pub came_back : (seats back : List (SeatView E)) → length back ≡ length seats → AreFree lock 0 seats
      → ((i : ℕ) (d : SeatView E) → i < length seats
      → (job : SeatView E) × (job ≡ slice_index_or seats i job) × IsFree lock job.number (slice_index_or back i d))
      → AreFree lock 0 back
  came_back seats back long free each = all_free 0 back (λ i d low.
      let e = each i d (omega arith) in
      let was = free_there seats i e.0 free (omega arith) e.1 in
      renumbered e.0.number (0 + i) (slice_index_or back i d) (was.1 ∙ (omega arith)) e.2)
