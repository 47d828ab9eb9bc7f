-- Each step keeps the rule.
use Rattle.std.proofs.Common.{◌≡◌, ◌≢◌, ℕ, ◌+◌, ◌%◌, ◌<◌, List, [], ◌∷◌, ◌++◌, length, set, true, false, sym, refl, ap, ◌∙◌}
use Rattle.std.proofs.Common.{subst, ⊎_elim, inl, inr, arith, length-set, length-append, Option, Some}
use Rattle.std.specs.Prelude.{slice_index, slice_set}
use mathlib.Core.Option.{none, some}
use mathlib.Core.Logic.{dite}
use native.Mathlib.Decide.{ℕ_discrete}
use lib.ListN.{get_elem?}
use Rattle.atomic_table.specs.Table.{State, Me, Act, keeps, takes, gives, Valid, stepped, carried_after, Allows, Splits, Joins}
use Rattle.atomic_table.proofs.Lists.{set_here, set_else}
use Rattle.seen_lock.specs.declared.known.Known.{Known}
use Rattle.seen_lock.specs.declared.known.Ended.{Ended}
use Rattle.ifc_base.specs.Histories.{StartsWith}
use Rattle.seen_lock.specs.Order.{modulus, since, IsHome, IsOut, IsEnded, Kept}
use Rattle.seen_lock.specs.Steps.{with_ticket, holding, added, passed, with_one_more, newborn, ended, gathered, spent, Drew}
use Rattle.seen_lock.specs.Steps.{Looked, Added, Passed}
use Rattle.seen_lock.proofs.Sums.{in_range, same_at, next_word, swapped}
use Rattle.seen_lock.proofs.Tickets.{clash, draws, passes, stays, idles, grows, is_turn}
use Rattle.seen_lock.proofs.Logs.{starts_more, starts_all, starts_as, adds, relogs, spends, gathers, makes_one, counted_set}
use Rattle.seen_lock.proofs.Logs.{counted_spent, counted_push}
use Rattle.seen_lock.proofs.Slots.{slot_stays, slot_grows, holder, no_one-set, no_other-set, no_other-same}

module _ {S E : Type 0} (entries : S → List E) (maker : E → ℕ) (fits : S → Type 0) (first : List E) (seats : ℕ) where
  pub draw_keeps : (slots id : ℕ) (m : Me (Option S) (Known E)) → m.0.waits ≡ false → m.0.holds ≡ false → m.0.live ≡ true
      → Allows (Kept entries maker fits first seats) slots id m 1 (λ n. (n + 1) % modulus) (Drew m)
  draw_keeps slots id m idle free live s k wide at small =
      let v = m.0 in
      let w : Known E = with_ticket v k.ticket in
      let me = k.logged.live id v at live in (
        w,
        keeps,
        tt,
        record {
          turn = k.turn;
          ticket = k.ticket + 1;
          log = k.log;
          words = ap (λ l. slice_set l 1 ((slice_index l 1 + 1) % modulus)) k.words
              ∙ ap (λ x. k.turn % modulus ∷ x ∷ length k.log % modulus ∷ []) (next_word k.ticket);
          few = (let f = k.few in let g = length-set s.views id w in omega arith);
          tickets = draws k.turn k.ticket s.views id v w k.tickets at idle refl refl;
          slot = slot_stays entries fits k.turn k.log s.homes s.views id v w k.slot at free free;
          begun = k.begun;
          logged = relogs maker (length first) k.log s.views id v w k.logged at live live refl me.seen refl refl refl refl;
          counted = counted_set seats s.views id v w k.counted at refl (λ h. h);
        },
        (k.ticket, refl, ap (λ l. slice_index l 1) k.words),
      )

  pub look_keeps : (fine : S → Type 0) (from slots id : ℕ) (m : Me (Option S) (Known E)) → ((y : S) → fits y → fine y)
      → from ≡ length first → m.0.waits ≡ true → m.0.holds ≡ false → m.0.live ≡ true → m.1 ≡ []
      → Allows (Kept entries maker fits first seats) slots id m 0 (λ n. n) (Looked entries maker fine from m)
  look_keeps fine from slots id m fits_are from_is has free live bare s k wide at small =
      let v = m.0 in
      let me = k.logged.live id v at live in
      let found : slice_index s.words 0 ≡ k.turn % modulus = ap (λ l. slice_index l 0) k.words in
      let same : slice_set s.words 0 (slice_index s.words 0)
      ≡ k.turn % modulus ∷ k.ticket % modulus ∷ length k.log % modulus ∷ [] =
      ap (λ l. slice_set l 0 (slice_index l 0)) k.words in
      dite (ℕ_discrete (k.turn % modulus) (v.ticket % modulus))
      (λ here.
      let turn : v.ticket ≡ k.turn = is_turn k.turn k.ticket s.views id v k.tickets k.few at has here in
      ⊎_elim
      (λ (h : IsHome entries fits k.turn k.log s.homes s.views).
      let w : Known E = holding v (entries h.state) in (
        w,
        takes 0 (Some h.state),
        ap (λ l. get_elem? l 0) h.is,
        record {
          turn = k.turn;
          ticket = k.ticket;
          log = k.log;
          words = same;
          few = (let f = k.few in let g = length-set s.views id w in omega arith);
          tickets = stays k.turn k.ticket s.views id v w k.tickets at refl refl;
          slot = inr record {
            is = ap (λ l. slice_set l 0 none) h.is;
            id = id;
            view = w;
            at = set_here s.views id w (in_range s.views id v at);
            held = record { holds = refl; waits = has; live = live; ticket = turn; seen = h.history };
            others = no_other-set s.views id w h.free;
          };
          begun = k.begun;
          logged = relogs maker (length first) k.log s.views id v w k.logged at live live refl
              (starts_as k.log k.log (entries h.state) h.history (starts_all k.log)) refl refl refl refl;
          counted = counted_set seats s.views id v w k.counted at refl (λ h. h);
        },
        (
          (λ _. record {
            state = h.state;
            seat = ap (λ c. (w, (0, Some h.state) ∷ c)) bare;
            fit = fits_are h.state h.fit;
            seen = subst (λ l. StartsWith l v.seen) (sym h.history) me.seen;
            own = ap (λ n. since maker n v.number (entries h.state)) from_is
                ∙ (ap (λ l. since maker (length first) v.number l) h.history
                ∙ (ap (λ j. since maker (length first) j k.log) me.number ∙ me.own));
          }),
          (λ ne. absurd (ne (found ∙ here))),
        ),
      ))
      (λ (o : IsOut entries fits k.turn k.log s.homes s.views).
      let a = k.tickets.held id v at has in
      let b = k.tickets.held o.id o.view o.at o.held.waits in
      let one : o.id ≡ id = sym b.2 ∙ (ap k.tickets.who (o.held.ticket ∙ sym turn) ∙ a.2) in
      clash o.view.holds o.held.holds (ap (λ (q : Known E). q.holds)
      (same_at s.views id o.view v (ap (get_elem? s.views) (sym one) ∙ o.at) at) ∙ free))
      k.slot)
      (λ ne. (
        v,
        keeps,
        tt,
        record {
          turn = k.turn;
          ticket = k.ticket;
          log = k.log;
          words = same;
          few = (let f = k.few in let g = length-set s.views id v in omega arith);
          tickets = stays k.turn k.ticket s.views id v v k.tickets at refl refl;
          slot = slot_stays entries fits k.turn k.log s.homes s.views id v v k.slot at free free;
          begun = k.begun;
          logged = relogs maker (length first) k.log s.views id v v k.logged at live live refl me.seen refl refl refl refl;
          counted = counted_set seats s.views id v v k.counted at refl (λ h. h);
        },
        ((λ e. absurd (ne (sym found ∙ e))), (λ _. refl)),
      ))

  pub add_keeps : (slots id : ℕ) (m : Me (Option S) (Known E)) (e : E) → m.0.holds ≡ true → m.0.live ≡ true → maker e ≡ m.0.number
      → Allows (Kept entries maker fits first seats) slots id m 2 (λ n. (n + 1) % modulus) (Added (e ∷ []) m)
  add_keeps slots id m e has live mine s k wide at small =
      let v = m.0 in
      let w : Known E = added v (e ∷ []) in
      let log = k.log ++ e ∷ [] in
      let me = k.logged.live id v at live in
      let h = holder entries fits k.turn k.log s.homes s.views id v k.slot at has in
      let all : v.seen ++ e ∷ [] ≡ log = ap (λ l. l ++ e ∷ []) h.1.seen in
      let long : (length k.log % modulus + 1) % modulus ≡ length log % modulus = next_word (length k.log)
      ∙ ap (λ n. n % modulus) (sym (length-append k.log (e ∷ []))) in (
        w,
        keeps,
        tt,
        record {
          turn = k.turn;
          ticket = k.ticket;
          log = log;
          words = ap (λ l. slice_set l 2 ((slice_index l 2 + 1) % modulus)) k.words
              ∙ ap (λ x. k.turn % modulus ∷ k.ticket % modulus ∷ x ∷ []) long;
          few = (let f = k.few in let g = length-set s.views id w in omega arith);
          tickets = stays k.turn k.ticket s.views id v w k.tickets at refl refl;
          slot = inr record {
            is = h.0;
            id = id;
            view = w;
            at = set_here s.views id w (in_range s.views id v at);
            held = record { holds = h.1.holds; waits = h.1.waits; live = h.1.live; ticket = h.1.ticket; seen = all };
            others = no_other-same s.views id w h.2;
          };
          begun = starts_more k.log first (e ∷ []) k.begun;
          logged = adds maker (length first) k.log s.views id v w (e ∷ []) k.logged at live (mine ∙ me.number, tt) live refl
              (starts_as log log w.seen all (starts_all log)) refl refl refl refl;
          counted = counted_set seats s.views id v w k.counted at refl (λ h. h);
        },
        refl,
      )

  pub add_keeps_as : (slots id : ℕ) (m : Me (Option S) (Known E)) (es : List E) → m.0.holds ≡ true → m.0.live ≡ true
      → ((e : E) × (es ≡ e ∷ []) × (maker e ≡ m.0.number))
      → Allows (Kept entries maker fits first seats) slots id m 2 (λ n. (n + 1) % modulus) (Added es m)
  add_keeps_as slots id m es has live new = subst (λ (l : List E).
      Allows (Kept entries maker fits first seats) slots id m 2 (λ n. (n + 1) % modulus) (Added l m)) (sym new.1)
      (add_keeps slots id m new.0 has live new.2)

  pub pass_keeps : (slots id : ℕ) (m : Me (Option S) (Known E)) (y : S) → m.1 ≡ (0, Some y) ∷ [] → m.0.holds ≡ true
      → m.0.live ≡ true → entries y ≡ m.0.seen → fits y
      → Allows (Kept entries maker fits first seats) slots id m 0 (λ n. (n + 1) % modulus) (Passed m)
  pass_keeps slots id m y carried has live all fit s k wide at small =
      let v = m.0 in
      let w : Known E = passed v in
      let me = k.logged.live id v at live in
      let h = holder entries fits k.turn k.log s.homes s.views id v k.slot at has in
      subst
      (λ c. (u : Known E) × (a : Act (Option S)) × Valid s.homes c a
      × Kept entries maker fits first seats (stepped s 0 ((slice_index s.words 0 + 1) % modulus) id c u a)
      × Passed m (slice_index s.words 0) (u, carried_after c a))
      (sym carried) (
        w,
        gives,
        tt,
        record {
          turn = k.turn + 1;
          ticket = k.ticket;
          log = k.log;
          words = ap (λ l. slice_set l 0 ((slice_index l 0 + 1) % modulus)) k.words
              ∙ ap (λ x. x ∷ k.ticket % modulus ∷ length k.log % modulus ∷ []) (next_word k.turn);
          few = (let f = k.few in let g = length-set s.views id w in omega arith);
          tickets = passes k.turn k.ticket s.views id v w k.tickets at h.1.waits h.1.ticket refl;
          slot = inl record {
            state = y;
            is = ap (λ l. slice_set l 0 (some (Some y))) h.0;
            history = all ∙ h.1.seen;
            fit = fit;
            free = no_one-set s.views id w h.2 refl;
          };
          begun = k.begun;
          logged = relogs maker (length first) k.log s.views id v w k.logged at live live refl me.seen refl refl refl refl;
          counted = counted_set seats s.views id v w k.counted at refl (λ h. h);
        },
        refl,
      )

  pub make_keeps : (id : ℕ) (v : Known E) → v.makes ≡ true → v.live ≡ true → v.holds ≡ false → v.made + 1 < modulus
      → Splits (Kept {S = S} entries maker fits first seats) id v (with_one_more v) (newborn v)
  make_keeps id v makes live free room s k at =
      let w : Known E = with_one_more v in
      let n : Known E = newborn v in
      let mine = k.logged.makes id v at makes in
      record {
        turn = k.turn;
        ticket = k.ticket;
        log = k.log;
        words = k.words;
        few = (let a = length-set s.views id w in let b = length-append (set s.views id w) (n ∷ []) in let m = mine.1 in
            omega arith);
        tickets = grows k.turn k.ticket (set s.views id w) n (stays k.turn k.ticket s.views id v w k.tickets at refl refl) refl;
        slot = slot_grows entries fits k.turn k.log s.homes (set s.views id w) n
            (slot_stays entries fits k.turn k.log s.homes s.views id v w k.slot at free free) refl;
        begun = k.begun;
        logged = makes_one maker (length first) k.log s.views id v k.logged at live makes;
        counted = counted_push seats (set s.views id w) n (counted_set seats s.views id v w k.counted at refl (λ h. h))
            (k.counted id v at live);
      }

  pub join_keeps : (id : ℕ) (v : Known E) (other : ℕ) (w : Known E) → v.holds ≡ false → w.waits ≡ false → w.holds ≡ false
      → w.live ≡ true
      → Joins (Kept {S = S} entries maker fits first seats) id v other w (gathered v w) spent
  join_keeps id v other w free still put live s k at apart there =
      let both : Known E = gathered v w in
      let was : get_elem? s.views other ≡ some w = sym (set_else s.views id other both apart) ∙ there in
      let views : List (Known E) = set s.views other spent in
      let at_still : get_elem? views id ≡ some v = set_else s.views other id spent (λ e. apart (sym e)) ∙ at in
      let theirs = k.logged.live other w was live in
      let out = spends maker (length first) k.log s.views other w spent k.logged was refl refl refl in
      let gone : IsEnded maker (length first) k.log views (ended w) = record {
        seen = theirs.seen;
        own = ap (λ j. since maker (length first) j k.log) theirs.number ∙ theirs.own;
        made = (let a = in_range s.views other w was in let b = length-set s.views other spent in let c = theirs.number in
            omega arith);
        ended = λ u e. ap (λ (q : Known E). q.live)
            (same_at views other u spent (ap (get_elem? views) (sym theirs.number) ∙ e)
            (set_here s.views other spent (in_range s.views other w was)));
      } in
      subst (λ l. Kept entries maker fits first seats record { words = s.words; homes = s.homes; views = l })
      (sym (swapped s.views id other both spent (λ e. apart (sym e))))
      record {
        turn = k.turn;
        ticket = k.ticket;
        log = k.log;
        words = k.words;
        few = (let f = k.few in let a = length-set s.views other spent in let b = length-set views id both in omega arith);
        tickets = stays k.turn k.ticket views id v both
            (idles k.turn k.ticket s.views other w spent k.tickets was still refl) at_still refl refl;
        slot = slot_stays entries fits k.turn k.log s.homes views id v both
            (slot_stays entries fits k.turn k.log s.homes s.views other w spent k.slot was put refl) at_still free free;
        begun = k.begun;
        logged = gathers maker (length first) k.log views id v (ended w) out at_still gone;
        counted = counted_set seats views id v both (counted_spent seats s.views other spent k.counted refl) at_still refl
            (λ h. h);
      }

  -- where all others have ended, the state is at home
  pub all_home : (id : ℕ) (v : Known E) (s : State (Option S) (Known E)) (k : Kept entries maker fits first seats s)
      → get_elem? s.views id ≡ some v → v.holds ≡ false → v.makes ≡ true
      → ((j : ℕ) → j < v.made → j ≢ id → (i : ℕ) × (x : Ended E) × (get_elem? v.gone i ≡ some x) × (x.number ≡ j))
      → IsHome entries fits k.turn k.log s.homes s.views
  all_home id v s k at free makes all = ⊎_elim
      (λ (h : IsHome entries fits k.turn k.log s.homes s.views). h)
      (λ (o : IsOut entries fits k.turn k.log s.homes s.views).
      let apart : o.id ≢ id = λ e. clash o.view.holds o.held.holds
      (ap (λ (q : Known E). q.holds) (same_at s.views id o.view v (ap (get_elem? s.views) (sym e) ∙ o.at) at) ∙ free) in
      let mine = k.logged.makes id v at makes in
      let low = in_range s.views o.id o.view o.at in
      let m = mine.1 in
      let t = all o.id (omega arith) apart in
      let x = k.logged.gone id v at t.0 t.1 t.2 in
      clash o.view.live o.held.live (x.ended o.view (ap (get_elem? s.views) t.3 ∙ o.at)))
      k.slot
