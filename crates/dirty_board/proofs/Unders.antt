-- The index of keys, while rows and index change.
use Rattle.std.proofs.Common.{◌≡◌, ℕ, suc, ◌+◌, ◌<◌, Bool, true, false, ◌||◌, if◌then◌else◌, cond, List, [], ◌∷◌, ◌++◌, length, take, fold, filter, get_or, map, Option, Some, None, refl, ap, sym, subst, ◌∙◌}
use Rattle.std.specs.Prelude.{Vec}
use Rattle.std.specs.List.{list_any}
use Rattle.std.specs.Option.{option_map}
use Rattle.std.proofs.lemmas.Bool.{true≢false}
use Rattle.ifc_base.specs.declared.key.Key.{Key}
use Rattle.ifc_base.specs.KeyOrder.{key_eq, key_eq-Decides}
use Rattle.audit_model.specs.declared.verdict.Pair.{Pair}
use Rattle.audit_model.specs.Pairs.{same_pair}
use Rattle.dirty_board.specs.declared.rows.Row.{Row}
use Rattle.dirty_board.specs.declared.rows.Kept.{Kept}
use Rattle.dirty_board.specs.Rooms.{with_pair}
use Rattle.dirty_board.specs.Rows.{below, with_row, keeping, dropping, new_row, needs_key, without_key, dropped_among, unsettled_by, marked, row_place, AreAscending}
use Rattle.dirty_board.specs.Needing.{AreUnder, has_pair, is_among}
use Rattle.dirty_board.proofs.Order.{none_after, same_is}
use Rattle.dirty_board.proofs.Tests.{any_more}

-- a change of one row that leaves its pair, and after which it needs no other key
pub under_with : {A : Type 0} (index : List (Key × Vec Pair A)) (p : Pair) (f : Row → Row) → ((r : Row) → (f r).pair ≡ r.pair) → ((r : Row) (k : Key) → needs_key k (f r) ≡ true → needs_key k r ≡ true) → (rows : List Row) → AreUnder index rows → AreUnder index (with_row p f rows)
under_with index p f same less [] h = tt
under_with index p f same less (r ∷ rs) h =
    elim (same_pair p r.pair) as (λ b. AreUnder index (if b then f r ∷ rs else r ∷ with_row p f rs)) [
      | true ↦ ((λ k n. rw (same r) (h.0 k (less r k n))), h.1)
      | false ↦ (h.0, under_with index p f same less rs h.1)
    ]

-- more stands under the keys
pub under_more : {A : Type 0} (index next : List (Key × Vec Pair A)) → ((k : Key) (p : Pair) → has_pair index k p ≡ true → has_pair next k p ≡ true) → (rows : List Row) → AreUnder index rows → AreUnder next rows
under_more index next more [] h = tt
under_more index next more (r ∷ rs) h = ((λ k n. more k r.pair (h.0 k n)), under_more index next more rs h.1)

-- what is kept of the pair needs keys under which it stands
pub under_keep : {A : Type 0} (index : List (Key × Vec Pair A)) (p : Pair) (kept : Kept) → ((k : Key) → list_any (λ j. key_eq j k) kept.needs ≡ true → has_pair index k p ≡ true) → (rows : List Row) → AreUnder index rows → AreUnder index (with_row p (keeping kept) rows)
under_keep index p kept stands [] h = tt
under_keep {A} index p kept stands (r ∷ rs) h =
    let F : Bool → Type 0 = λ b. same_pair p r.pair ≡ b → AreUnder index (if b then keeping kept r ∷ rs else r ∷ with_row p (keeping kept) rs) in
    let at : F (same_pair p r.pair) = elim (same_pair p r.pair) as F [
      | true ↦ λ e. ((λ k n. subst (λ (q : Pair). has_pair index k q ≡ true) (same_is p r.pair e) (stands k n)), h.1)
      | false ↦ λ e. (h.0, under_keep index p kept stands rs h.1)
    ] in
    at refl

-- A change of the pair's row is a change of each row of the pair, since rows are of different pairs.

abbrev pub one_of : Pair → (Row → Row) → Row → Row
one_of p f r = if same_pair p r.pair then f r else r

strange : (p : Pair) (f : Row → Row) (rows : List Row) → row_place p rows ≡ None → rows ≡ map (one_of p f) rows
strange p f [] e = refl
strange p f (r ∷ rs) e =
    let F : Bool → Type 0 = λ b. (if b then Some 0 else option_map (λ n. suc n) (row_place p rs)) ≡ None → r ∷ rs ≡ (if b then f r else r) ∷ map (one_of p f) rs in
    let G : Option ℕ → Type 0 = λ o. row_place p rs ≡ o → option_map (λ n. suc n) o ≡ None → r ∷ rs ≡ r ∷ map (one_of p f) rs in
    let rest : G (row_place p rs) = elim (row_place p rs) as G [ None ↦ λ h t. ap (λ xs. r ∷ xs) (strange p f rs h) | Some j ↦ λ h t. absurd (cc) ] in
    let at : F (same_pair p r.pair) = elim (same_pair p r.pair) as F [ true ↦ λ t. absurd (cc) | false ↦ λ t. rest refl t ] in
    at e

pub with_map : (p : Pair) (f : Row → Row) (rows : List Row) → AreAscending rows → with_row p f rows ≡ map (one_of p f) rows
with_map p f [] a = refl
with_map p f (r ∷ rs) a =
    let F : Bool → Type 0 = λ b. same_pair p r.pair ≡ b → (if b then f r ∷ rs else r ∷ with_row p f rs) ≡ (if b then f r else r) ∷ map (one_of p f) rs in
    let at : F (same_pair p r.pair) = elim (same_pair p r.pair) as F [
      | true ↦ λ e. ap (λ xs. f r ∷ xs) (strange p f rs (subst (λ (q : Pair). row_place q rs ≡ None) (sym (same_is p r.pair e)) (none_after r.pair rs a.0)))
      | false ↦ λ e. ap (λ xs. r ∷ xs) (with_map p f rs a.1)
    ] in
    at refl

-- one more pair

or_false : (a : Bool) → (a || false) ≡ a
or_false true = refl
or_false false = refl

without_pair : (k : Key) (r : Row) → (without_key k r).pair ≡ r.pair
without_pair k r = elim (needs_key k r) as (λ b. (if b then dropping r else r).pair ≡ r.pair) [ true ↦ refl | false ↦ refl ]

-- what was dropped needs no key
pub without_needs : (k : Key) (r : Row) (j : Key) → needs_key j (without_key k r) ≡ true → needs_key j r ≡ true
without_needs k r j = elim (needs_key k r) as (λ b. needs_key j (if b then dropping r else r) ≡ true → needs_key j r ≡ true) [ true ↦ λ e. absurd (cc) | false ↦ λ e. e ]

pub without_itself : (k : Key) (r : Row) → needs_key k (without_key k r) ≡ false
without_itself k r =
    let F : Bool → Type 0 = λ b. needs_key k r ≡ b → needs_key k (if b then dropping r else r) ≡ false in
    let at : F (needs_key k r) = elim (needs_key k r) as F [ true ↦ λ e. refl | false ↦ λ e. e ] in
    at refl

pub without_twice : (k : Key) (r : Row) → without_key k (without_key k r) ≡ without_key k r
without_twice k r = let n : needs_key k (without_key k r) ≡ false = without_itself k r in rw n

-- one more step of a loop

map_after : (f g h : Row → Row) → ((r : Row) → h r ≡ g (f r)) → (rows : List Row) → map g (map f rows) ≡ map h rows
map_after f g h same [] = refl
map_after f g h same (r ∷ rs) = rw (same r) (ap (λ xs. g (f r) ∷ xs) (map_after f g h same rs))

dropped_step : (p : Pair) (k : Key) (r : Row) (a b : Bool) → same_pair p r.pair ≡ b → (if (a || b) then without_key k r else r) ≡ one_of p (without_key k) (if a then without_key k r else r)
dropped_step p k r true b e = elim (same_pair p (without_key k r).pair) as (λ c. without_key k r ≡ (if c then without_key k (without_key k r) else without_key k r)) [ true ↦ sym (without_twice k r) | false ↦ refl ]
dropped_step p k r false b e = rw e

pub dropped_more : (ps : List Pair) (k : Key) (i : ℕ) (p : Pair) → i < length ps → p ≡ get_or ps i p → (rows : List Row) → map (one_of p (without_key k)) (map (dropped_among (take i ps) k) rows) ≡ map (dropped_among (take (i + 1) ps) k) rows
dropped_more ps k i p l e rows = map_after (dropped_among (take i ps) k) (one_of p (without_key k)) (dropped_among (take (i + 1) ps) k) (λ r. rw (any_more (λ q. same_pair q r.pair) ps i p l e) (dropped_step p k r (list_any (λ q. same_pair q r.pair) (take i ps)) (same_pair p r.pair) refl)) rows

pub dropped_none : (k : Key) (rows : List Row) → rows ≡ map (dropped_among [] k) rows
dropped_none k [] = refl
dropped_none k (r ∷ rs) = ap (λ xs. r ∷ xs) (dropped_none k rs)

marked_step : (k : Key) (r : Row) (a b : Bool) → needs_key k r ≡ b → (if (a || b) then dropping r else r) ≡ without_key k (if a then dropping r else r)
marked_step k r true b e = refl
marked_step k r false b e = rw e

pub marked_more : (ks : List Key) (i : ℕ) (k : Key) → i < length ks → k ≡ get_or ks i k → (rows : List Row) → map (without_key k) (marked (take i ks) rows) ≡ marked (take (i + 1) ks) rows
marked_more ks i k l e rows = map_after (unsettled_by (take i ks)) (without_key k) (unsettled_by (take (i + 1) ks)) (λ r. rw (any_more (λ j. needs_key j r) ks i k l e) (marked_step k r (list_any (λ j. needs_key j r) (take i ks)) (needs_key k r) refl)) rows

pub marked_none : (rows : List Row) → rows ≡ marked [] rows
marked_none [] = refl
marked_none (r ∷ rs) = ap (λ xs. r ∷ xs) (marked_none rs)

-- the pairs under the key are all that need it

pub covered : {A : Type 0} (index : List (Key × Vec Pair A)) (k : Key) (ps : List Pair) → ((p : Pair) → has_pair index k p ≡ true → is_among ps p ≡ true) → (rows : List Row) → AreUnder index rows → map (dropped_among ps k) rows ≡ map (without_key k) rows
covered index k ps all [] h = refl
covered {A} index k ps all (r ∷ rs) h =
    let F : Bool → Type 0 = λ b. needs_key k r ≡ b → dropped_among ps k r ≡ without_key k r in
    let G : Bool → Type 0 = λ b. (if b then without_key k r else r) ≡ r in
    let at : F (needs_key k r) = elim (needs_key k r) as F [
      | true ↦ λ e. let among : is_among ps r.pair ≡ true = all r.pair (h.0 k e) in rw among
      | false ↦ λ e. let same : without_key k r ≡ r = rw e in rw same (elim (is_among ps r.pair) as (λ b. (if b then r else r) ≡ r) [ true ↦ refl | false ↦ refl ])
    ] in
    rw (at refl) (ap (λ xs. without_key k r ∷ xs) (covered index k ps all rs h.1))

-- once nothing stands under the key, nothing needs it
pub under_without : {A : Type 0} (index next : List (Key × Vec Pair A)) (key : Key) → ((k : Key) (p : Pair) → key_eq key k ≡ false → has_pair index k p ≡ true → has_pair next k p ≡ true) → (rows : List Row) → AreUnder index rows → AreUnder next (map (without_key key) rows)
under_without index next key stay [] h = tt
under_without {A} index next key stay (r ∷ rs) h =
    let one : (k : Key) → needs_key k (without_key key r) ≡ true → has_pair next k (without_key key r).pair ≡ true =
    λ k n.
    let F : Bool → Type 0 = λ b. key_eq key k ≡ b → has_pair next k r.pair ≡ true in
    let at : F (key_eq key k) = elim (key_eq key k) as F [
      | true ↦ λ e. absurd (true≢false (sym n ∙ subst (λ (j : Key). needs_key j (without_key key r) ≡ false) ((key_eq-Decides key k).0 e) (without_itself key r)))
      | false ↦ λ e. stay k r.pair e (h.0 k (without_needs key r k n))
    ] in
    subst (λ (q : Pair). has_pair next k q ≡ true) (sym (without_pair key r)) (at refl) in
    (one, under_without index next key stay rs h.1)

-- new rows need nothing
pub new_under : {A : Type 0} (index : List (Key × Vec Pair A)) (ps : List Pair) → AreUnder index (map new_row ps)
new_under index [] = tt
new_under index (p ∷ ps) = ((λ k n. absurd (true≢false (sym n))), new_under index ps)

-- rows that go, and rows that come

pub under_filter : {A : Type 0} (index : List (Key × Vec Pair A)) (t : Row → Bool) (rows : List Row) → AreUnder index rows → AreUnder index (filter t rows)
under_filter index t [] h = tt
under_filter {A} index t (r ∷ rs) h =
    elim (t r) as (λ b. AreUnder index (cond b (r ∷ filter t rs) (filter t rs))) [ true ↦ (h.0, under_filter index t rs h.1) | false ↦ under_filter index t rs h.1 ]

under_append : {A : Type 0} (index : List (Key × Vec Pair A)) (rows more : List Row) → AreUnder index rows → AreUnder index more → AreUnder index (rows ++ more)
under_append index [] more h k = k
under_append index (r ∷ rs) more h k = (h.0, under_append index rs more h.1 k)

pub under_added : {A : Type 0} (index : List (Key × Vec Pair A)) (come : List Pair) (rows : List Row) → AreUnder index rows → AreUnder index (fold with_pair rows come)
under_added index [] rows h = h
under_added index (p ∷ ps) rows h =
    under_added index ps (with_pair rows p)
    (under_append index (filter (λ (r : Row). below r.pair p) rows) (new_row p ∷ filter (λ (r : Row). below p r.pair) rows) (under_filter index (λ (r : Row). below r.pair p) rows h) ((λ k n. absurd (true≢false (sym n))), under_filter index (λ (r : Row). below p r.pair) rows h))
