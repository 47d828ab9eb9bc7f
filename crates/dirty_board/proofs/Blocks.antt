-- Flags in blocks.
use Rattle.std.proofs.Common.{◌≡◌, ℕ, suc, zero, ◌+◌, ◌-◌, ◌*◌, ◌/◌, ◌<◌, ◌≤◌, Bool, true, false, ◌||◌, List, [], ◌∷◌, length, get_or, set, Some, None, refl, arith, sym, subst, ap, ◌∙◌, inl, inr}
use Rattle.std.specs.Prelude.{insert}
use Rattle.std.specs.List.{remove}
use Rattle.std.proofs.lemmas.Bool.{cases_lt, true≢false}
use Rattle.std.proofs.lemmas.List.Edits.{get_or-insert_above, get_or-insert_below, get_or-remove_above, get_or-remove_below}
use Rattle.dirty_board.specs.Blocks.{is_near, AreBlocks, AreMoved}
use Rattle.dirty_board.specs.Rows.{first_set}

-- none before the place is set, and that at the place is
pub first_is : (bs : List Bool) (i : ℕ) → ((j : ℕ) → j < i → get_or bs j false ≡ false) → get_or bs i false ≡ true → first_set bs ≡ Some i
first_is [] i n e = absurd (true≢false (sym e))
first_is (b ∷ bs) zero n e = let here : b ≡ true = e in rw here
first_is (b ∷ bs) (suc i) n e =
    let here : b ≡ false = n 0 (omega arith) in
    rw (here, first_is bs i (λ j l. n (suc j) (omega (arith, l))) e)

pub first_none : (bs : List Bool) (i : ℕ) → ((j : ℕ) → j < i → get_or bs j false ≡ false) → length bs ≤ i → first_set bs ≡ None
first_none [] i n l = refl
first_none (b ∷ bs) zero n l = absurd (omega arith)
first_none (b ∷ bs) (suc i) n l =
    let here : b ≡ false = n 0 (omega arith) in
    rw (here, first_none bs i (λ j k. n (suc j) (omega (arith, k))) (omega (arith, l)))

pub within_flags : (bs : List Bool) (i : ℕ) → get_or bs i false ≡ true → i < length bs
within_flags [] i e = absurd (true≢false (sym e))
within_flags (b ∷ bs) zero e = omega arith
within_flags (b ∷ bs) (suc i) e = let l : i < length bs = within_flags bs i e in omega (arith, l)

-- one block more is told anew
pub told_more : (flags first now next : List Bool) (block : ℕ) → ((i : ℕ) → get_or flags i false ≡ true → is_near flags first (i / 256) ≡ true) → ((i : ℕ) → get_or flags i false ≡ true → i / 256 < block → get_or now (i / 256) false ≡ true) → ((b : ℕ) → block ≤ b → get_or now b false ≡ get_or first b false) → ((b : ℕ) → b < block → get_or next b false ≡ get_or now b false) → (is_near flags now block ≡ true → (i : ℕ) → i / 256 ≡ block → get_or flags i false ≡ true → get_or next block false ≡ true) → (i : ℕ) → get_or flags i false ≡ true → i / 256 < block + 1 → get_or next (i / 256) false ≡ true
told_more flags first now next block edges done rest others shown i f l =
    elim (cases_lt (i / 256) block) [
      | inl less ↦ others (i / 256) less ∙ done i f less
      | inr more ↦
          let here : i / 256 ≡ block = omega (arith, l, more) in
          let near : is_near flags first block ≡ true = subst (λ (b : ℕ). is_near flags first b ≡ true) here (edges i f) in
          let near_now : is_near flags now block ≡ true = rw (rest block (omega arith)) near in
          subst (λ (b : ℕ). get_or next b false ≡ true) (sym here) (shown near_now i here f)
    ]

-- all blocks are told that have flags
pub told_all : (flags now : List Bool) (block : ℕ) → ((i : ℕ) → get_or flags i false ≡ true → i / 256 < block → get_or now (i / 256) false ≡ true) → (length flags ≤ 256 * block) → (i : ℕ) → get_or flags i false ≡ true → get_or now (i / 256) false ≡ true
told_all flags now block done l i f = let w : i < length flags = within_flags flags i f in done i f (omega (arith, w, l))

near_block : (flags blocks : List Bool) (b : ℕ) → get_or blocks b false ≡ true → is_near flags blocks b ≡ true
near_block flags blocks b e = rw e

near_first : (flags blocks : List Bool) (b : ℕ) → get_or flags (b * 256) false ≡ true → is_near flags blocks b ≡ true
near_first flags blocks b e = rw e (elim (get_or blocks b false) as (λ x. (x || true) ≡ true) [ true ↦ refl | false ↦ refl ])

near_last : (flags blocks : List Bool) (b : ℕ) → get_or flags (b * 256 + 255) false ≡ true → is_near flags blocks b ≡ true
near_last flags blocks b e = rw e (last (get_or blocks b false) (get_or flags (b * 256) false)) where
  last : (x y : Bool) → (x || (y || true)) ≡ true
  last true y = refl
  last false true = refl
  last false false = refl

pub set_grown : (bs : List Bool) (i b : ℕ) → get_or bs b false ≡ true → get_or (set bs i true) b false ≡ true
set_grown [] i b e = absurd (true≢false (sym e))
set_grown (x ∷ xs) zero zero e = refl
set_grown (x ∷ xs) zero (suc b) e = e
set_grown (x ∷ xs) (suc i) zero e = e
set_grown (x ∷ xs) (suc i) (suc b) e = set_grown xs i b e

pub set_here : (bs : List Bool) (i : ℕ) → i < length bs → get_or (set bs i true) i false ≡ true
set_here [] i l = absurd (omega (arith, l))
set_here (x ∷ xs) zero l = refl
set_here (x ∷ xs) (suc i) l = set_here xs i (omega (arith, l))

-- a flag that is set more
pub moved_insert : (flags blocks next : List Bool) (place : ℕ) → AreBlocks flags blocks → place ≤ length flags → ((b : ℕ) → get_or blocks b false ≡ true → get_or next b false ≡ true) → get_or next (place / 256) false ≡ true → AreMoved (insert flags place true) next (place / 256)
moved_insert flags blocks next place a le grown here = record { before = λ i f l. first i f (omega (arith, l)); edges = edge } where
  first : (i : ℕ) → get_or (insert flags place true) i false ≡ true → i < place → get_or next (i / 256) false ≡ true
  first i f l = grown (i / 256) (a.shown i (sym (get_or-insert_below flags place true false i l le) ∙ f))

  above : (k : ℕ) → place ≤ k → get_or (insert flags place true) (k + 1) false ≡ true → is_near (insert flags place true) next ((k + 1) / 256) ≡ true
  above k l f =
      let was : get_or next (k / 256) false ≡ true = grown (k / 256) (a.shown k (sym (get_or-insert_above flags place true false k l le) ∙ f)) in
      elim (cases_lt (k / 256) ((k + 1) / 256)) [
        | inl less ↦
            let edge_is : (k + 1) / 256 * 256 ≡ k + 1 = omega (arith, less) in
            near_first (insert flags place true) next ((k + 1) / 256) (ap (λ (j : ℕ). get_or (insert flags place true) j false) edge_is ∙ f)
        | inr more ↦
            let same : k / 256 ≡ (k + 1) / 256 = omega (arith, more) in
            near_block (insert flags place true) next ((k + 1) / 256) (subst (λ (b : ℕ). get_or next b false ≡ true) same was)
      ]

  edge : (i : ℕ) → get_or (insert flags place true) i false ≡ true → is_near (insert flags place true) next (i / 256) ≡ true
  edge i f =
      elim (cases_lt i place) [
        | inl less ↦ near_block (insert flags place true) next (i / 256) (first i f less)
        | inr more ↦ elim (cases_lt place i) [
          | inl over ↦
              let back : i - 1 + 1 ≡ i = omega (arith, over) in
              subst (λ (j : ℕ). is_near (insert flags place true) next (j / 256) ≡ true) back (above (i - 1) (omega (arith, over)) (ap (λ (j : ℕ). get_or (insert flags place true) j false) back ∙ f))
          | inr under ↦
              let same : place ≡ i = omega (arith, more, under) in
              near_block (insert flags place true) next (i / 256) (subst (λ (j : ℕ). get_or next (j / 256) false ≡ true) same here)
        ]
      ]

-- a flag less
pub moved_remove : (flags blocks : List Bool) (place : ℕ) → AreBlocks flags blocks → place < length flags → AreMoved (remove flags place) blocks (place / 256)
moved_remove flags blocks place a lt = record { before = λ i f l. first i f (omega (arith, l)); edges = edge } where
  first : (i : ℕ) → get_or (remove flags place) i false ≡ true → i < place → get_or blocks (i / 256) false ≡ true
  first i f l = a.shown i (sym (get_or-remove_below flags place false i l lt) ∙ f)

  edge : (i : ℕ) → get_or (remove flags place) i false ≡ true → is_near (remove flags place) blocks (i / 256) ≡ true
  edge i f =
      elim (cases_lt i place) [
        | inl less ↦ near_block (remove flags place) blocks (i / 256) (first i f less)
        | inr more ↦
            let was : get_or blocks ((i + 1) / 256) false ≡ true = a.shown (i + 1) (sym (get_or-remove_above flags place false i more lt) ∙ f) in
            elim (cases_lt (i / 256) ((i + 1) / 256)) [
              | inl less ↦
                  let edge_is : i / 256 * 256 + 255 ≡ i = omega (arith, less) in
                  near_last (remove flags place) blocks (i / 256) (ap (λ (j : ℕ). get_or (remove flags place) j false) edge_is ∙ f)
              | inr under ↦
                  let same : (i + 1) / 256 ≡ i / 256 = omega (arith, under) in
                  near_block (remove flags place) blocks (i / 256) (subst (λ (b : ℕ). get_or blocks b false ≡ true) same was)
            ]
      ]
