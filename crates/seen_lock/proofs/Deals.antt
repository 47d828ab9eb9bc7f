-- How a lock begins.
use Rattle.std.proofs.Common.{◌≡◌, ℕ, zero, suc, ◌+◌, ◌%◌, ◌<◌, List, [], ◌∷◌, ◌++◌, length, drop, sym, refl, ap, ◌∙◌, subst}
use Rattle.std.proofs.Common.{inl, arith, Option, Some}
use mathlib.Core.Option.{some, some-injective, some-ne-none}
use lib.ListN.{get_elem?}
use Rattle.atomic_table.specs.Table.{Me, Splits, opening}
use Rattle.seen_lock.specs.declared.known.Known.{Known}
use Rattle.ifc_base.specs.Histories.{entries_of, AreMadeBelow}
use Rattle.seen_lock.specs.Order.{modulus, newcomer, IsLive, Kept}
use Rattle.seen_lock.specs.Steps.{dealer, with_one_more, newborn}
use Rattle.seen_lock.specs.Views.{LockId, SeatView, seat_view}
use Rattle.seen_lock.specs.Lists.{new_seat, new_seats}
use Rattle.seen_lock.proofs.Tickets.{clash}
use Rattle.seen_lock.proofs.Logs.{starts_all}
use Rattle.seen_lock.proofs.Moves.{make_keeps}

module _ {A : Type 0} where
  one_only : (a b : A) (j : ℕ) → get_elem? (a ∷ []) j ≡ some b → (j ≡ 0) × (a ≡ b)
  one_only a b zero e = (refl, some-injective a b e)
  one_only a b (suc j) e = absurd (some-ne-none b (sym e))

  drop_all : (l : List A) → drop (length l) l ≡ []
  drop_all [] = refl
  drop_all (x ∷ xs) = drop_all xs

module _ {S E : Type 0} (entries : S → List E) (maker : E → ℕ) (fits : S → Type 0) where
  pub opens : (state : S) (seats n : ℕ) → n ≡ length (entries state) → n < modulus → fits state
      → Kept entries maker fits (entries state) seats
      (opening (0 ∷ 0 ∷ n ∷ []) (Some state ∷ []) (newcomer (entries state) seats))
  opens state seats n is small fit =
      let log = entries state in
      let w : Known E = newcomer log seats in
      let views : List (Known E) = w ∷ [] in
      let word : n ≡ length log % modulus = omega arith in
      record {
        turn = 0;
        ticket = 0;
        log = log;
        words = ap (λ (k : ℕ). 0 ∷ 0 ∷ k ∷ []) word;
        few = omega arith;
        tickets = record {
          who = λ x. 0;
          count = refl;
          held = λ j v e h. clash v.waits h (ap (λ (k : Known E). k.waits) (sym (one_only w v j e).1));
          each = λ x lo hi. absurd (omega arith);
        };
        slot = inl record {
          state = state;
          is = refl;
          history = refl;
          fit = fit;
          free = λ j v e.
              ap (λ (k : Known E). k.holds) (sym (one_only w v j e).1);
        };
        begun = starts_all log;
        logged = record {
          long = omega arith;
          below = subst (AreMadeBelow maker 1) (sym (drop_all log)) (λ i d low. absurd (omega arith));
          live = λ j v e h.
              let o = one_only w v j e in
              subst (λ (p : ℕ × Known E). IsLive maker (length log) log views p.0 p.1)
              (λ i. (sym o.0 i, o.1 i)) record {
                number = refl;
                seen = starts_all log;
                own =
                    ap (entries_of maker 0) (drop_all log);
              };
          gone = λ j v e i x f. absurd (some-ne-none x (sym (ap (λ (k : Known E). get_elem? k.gone i) (one_only w v j e).1 ∙ f)));
          makes = λ j v e h. let o = one_only w v j e in (o.0, ap (λ (k : Known E). k.made) (sym o.1));
        };
        counted = λ j v e h. ap (λ (k : Known E). k.count) (sym (one_only w v j e).1);
      }

  pub deals : (first : List E) (seats id : ℕ) (m : Me (Option S) (Known E)) (seen : List E) (count n : ℕ)
      → m ≡ (dealer seen count n, []) → n + 1 < modulus
      → Splits (Kept {S = S} entries maker fits first seats) id m.0 (with_one_more m.0) (newborn m.0)
  deals first seats id m seen count n is room =
      let made : m.0.made ≡ n = ap (λ (x : Me (Option S) (Known E)). x.0.made) is in
      make_keeps entries maker fits first seats id m.0 (ap (λ (x : Me (Option S) (Known E)). x.0.makes) is)
      (ap (λ (x : Me (Option S) (Known E)). x.0.live) is) (ap (λ (x : Me (Option S) (Known E)). x.0.holds) is) (omega arith)

module _ {S E : Type 0} where
  pub dealt : (m now : Me (Option S) (Known E)) (seen : List E) (count n : ℕ) → m ≡ (dealer seen count n, [])
      → now ≡ (with_one_more m.0, m.1) → now ≡ (dealer seen count (n + 1), [])
  dealt m now seen count n is e = e ∙ ap (λ (x : Me (Option S) (Known E)). (with_one_more x.0, x.1)) is

  pub born : (m r : Me (Option S) (Known E)) (views : List (Known E)) (seen : List E) (count n : ℕ)
      → m ≡ (dealer seen count n, []) → r ≡ (newborn m.0, []) → views ≡ r.0 ∷ []
      → views ≡ newborn (dealer seen count n) ∷ []
  born m r views seen count n is e v = v ∙ (ap (λ (x : Me (Option S) (Known E)). x.0 ∷ []) e
      ∙ ap (λ (x : Me (Option S) (Known E)). newborn x.0 ∷ []) is)

module _ {E : Type 0} where
  -- so many new seats and one more
  pub one_more_seat : (lock : LockId) (seen : List E) (from n : ℕ)
      → new_seats lock seen from (suc n) ≡ new_seats lock seen from n ++ new_seat lock seen (from + n) ∷ []
  one_more_seat lock seen from zero = ap (λ k. new_seat lock seen k ∷ []) (omega arith)
  one_more_seat lock seen from (suc n) =
      ap (λ l. new_seat lock seen from ∷ l) (
      one_more_seat lock seen (from + 1) n
      ∙ ap (λ k. new_seats lock seen (from + 1) n ++ new_seat lock seen k ∷ []) (omega arith)
      )

  -- the seat that was made last goes behind the others
  pub dealt_seat : (lock z : LockId) (seen : List E) (count n k : ℕ) (views : List (Known E)) (items all : List (SeatView E))
      → z ≡ lock → views ≡ newborn (dealer seen count n) ∷ [] → n ≡ suc k → items ≡ new_seats lock seen 1 k
      → all ≡ items ++ seat_view z n views ∷ [] → all ≡ new_seats lock seen 1 (suc k)
  dealt_seat lock z seen count n k views items all same is next were push =
      let seat : seat_view z n views ≡ new_seat lock seen (1 + k) =
      ap (λ q. seat_view q n views) same ∙ ap (seat_view lock n) is ∙ ap (new_seat lock seen) (omega arith) in
      push ∙ ap (λ l. l ++ seat_view z n views ∷ []) were ∙ ap (λ q. new_seats lock seen 1 k ++ q ∷ []) seat
      ∙ sym (one_more_seat lock seen 1 k)

module _ {S E G : Type 0} (entries : S → List E) (maker : E → ℕ) (ground : S → G) where
  pub opens_as : (key state : S) (slots items : List (Option S)) (seats n : ℕ) → key ≡ state → slots ≡ []
      → items ≡ slots ++ Some state ∷ [] → n ≡ length (entries state) → n < modulus
      → Kept entries maker (λ y. ground y ≡ ground key) (entries key) seats
      (opening (0 ∷ 0 ∷ n ∷ []) items (newcomer (entries key) seats))
  opens_as key state slots items seats n same empty is len small =
      subst
      (λ (l : List (Option S)). Kept entries maker (λ y. ground y ≡ ground key) (entries key) seats
      (opening (0 ∷ 0 ∷ n ∷ []) l (newcomer (entries key) seats)))
      (ap (λ (x : S). Some x ∷ []) same ∙ sym (is ∙ ap (λ (l : List (Option S)). l ++ Some state ∷ []) empty))
      (opens entries maker (λ y. ground y ≡ ground key) key seats n
      (len ∙ ap (λ (x : S). length (entries x)) (sym same)) small refl)
