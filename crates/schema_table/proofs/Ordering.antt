-- Orders in which supertypes come first.
use Rattle.std.proofs.Common.{◌≡◌, ℕ, zero, suc, ◌+◌, ◌<◌, ◌≤◌, Bool, true, false, ◌||◌, ◌==◌, List, [], ◌∷◌, ◌++◌, length, take, reverse, Option, Some, None, refl, ap, sym, ◌∙◌, subst, arith, append_assoc, append-nil, ⊎_elim}
use Rattle.std.specs.List.{slice_get}
use Rattle.std.proofs.lemmas.Bool.{cases_lt, eq-eqb}
use Rattle.std.proofs.lemmas.List.{take-append-le}
use Rattle.std.proofs.lemmas.List.Folds.{list_any-append}
use Rattle.std.proofs.lemmas.Grind.{reverse_onto}
use Rattle.std.proofs.Math.Seq.{take-append_seam}
use Rattle.schema_table.specs.Climbing.{step, lift, chain}
use Rattle.schema_table.specs.Order.{has_number, IsParentsFirst, AreTaken, IsLineDown}
use Rattle.schema_table.proofs.Chains.{lift-zero, lift-suc, lift-add, lift_within, chain-zero, chain-none, chain-suc, chain-add, AreWithin}

-- one more step
pub chain_more : (ps : List (Option ℕ)) (k x : ℕ) (o : Option ℕ) → lift ps k o ≡ Some x → chain ps (k + 1) o ≡ chain ps k o ++ x ∷ []
chain_more ps k x o e = chain-add ps k 1 o ∙ ap (λ p. chain ps k o ++ chain ps 1 p) e ∙ ap (λ l. chain ps k o ++ l) (chain-suc ps 0 x ∙ ap (λ l. x ∷ l) (chain-zero ps (step ps x)))

pub lift_more : (ps : List (Option ℕ)) (k x : ℕ) (o : Option ℕ) → lift ps k o ≡ Some x → lift ps (k + 1) o ≡ step ps x
lift_more ps k x o e = lift-add ps k 1 o ∙ ap (lift ps 1) e ∙ lift-suc ps 0 (Some x) ∙ lift-zero ps (step ps x)

or_true : (b : Bool) → (b || true) ≡ true
or_true true = refl
or_true false = refl

-- what stands there stands there still
pub kept_in : (xs ys : List ℕ) (y : ℕ) → has_number xs y ≡ true → has_number (xs ++ ys) y ≡ true
kept_in xs ys y h = list_any-append (λ x. x == y) xs ys ∙ ap (λ b. b || has_number ys y) h

pub last_in : (xs : List ℕ) (y : ℕ) → has_number (xs ++ y ∷ []) y ≡ true
last_in xs y = list_any-append (λ x. x == y) xs (y ∷ []) ∙ ap (λ b. has_number xs y || (b || false)) (eq-eqb y y refl) ∙ or_true (has_number xs y)

get_front : (xs : List ℕ) (y r : ℕ) → r < length xs → slice_get (xs ++ y ∷ []) r ≡ slice_get xs r
get_front [] y r h = absurd (omega arith)
get_front (x ∷ xs) y zero h = refl
get_front (x ∷ xs) y (suc r) h = get_front xs y r (omega arith)

get_last : (xs : List ℕ) (y r x : ℕ) → length xs ≤ r → slice_get (xs ++ y ∷ []) r ≡ Some x → (r ≡ length xs) × (y ≡ x)
get_last [] y zero x h e = (refl, cc)
get_last [] y (suc r) x h e = absurd (cc)
get_last (z ∷ xs) y zero x h e = absurd (omega arith)
get_last (z ∷ xs) y (suc r) x h e = let rest = get_last xs y r x (omega arith) e in (ap suc rest.0, rest.1)

-- one more number, whose parent stands before it
pub first_push : (ps : List (Option ℕ)) (order : List ℕ) (y : ℕ) → IsParentsFirst ps order → y < length ps → ((p : ℕ) → step ps y ≡ Some p → has_number order p ≡ true) → IsParentsFirst ps (order ++ y ∷ [])
first_push ps order y first h parent = λ r x e.
    ⊎_elim
    (λ less.
    let old = first r x (sym (get_front order y r less) ∙ e) in
    (old.0, λ p f. ap (λ l. has_number l p) (take-append-le r order (y ∷ []) (omega arith)) ∙ old.1 p f))
    (λ past.
    let at = get_last order y r x past e in
    let front : take r (order ++ y ∷ []) ≡ order = ap (λ k. take k (order ++ y ∷ [])) at.0 ∙ take-append_seam order (y ∷ []) in
    (subst (λ z. z < length ps) at.1 h, λ p f. ap (λ l. has_number l p) front ∙ parent p (ap (step ps) at.1 ∙ f)))
    (cases_lt r (length order))

-- a line down, below numbers that stand there
pub record IsGrown (ps : List (Option ℕ)) (order : List ℕ) (o : Option ℕ) : Type 0 where
  pub first : IsParentsFirst ps order
  pub has : (x : ℕ) → o ≡ Some x → has_number order x ≡ true

pub line_added : (ps : List (Option ℕ)) → AreWithin ps → (order : List ℕ) → IsParentsFirst ps order → (k : ℕ) (o : Option ℕ) → ((x : ℕ) → o ≡ Some x → x < length ps)
    → ((x : ℕ) → lift ps k o ≡ Some x → has_number order x ≡ true) → IsGrown ps (order ++ reverse (chain ps k o)) o
line_added ps w order first zero o inside end =
    let same : order ≡ order ++ reverse (chain ps 0 o) = sym (append-nil order) ∙ ap (λ l. order ++ reverse l) (sym (chain-zero ps o)) in
    subst (λ l. IsGrown ps l o) same (record { first = first; has = λ x e. end x (lift-zero ps o ∙ e) })
line_added ps w order first (suc k) None inside end =
    let same : order ≡ order ++ reverse (chain ps (suc k) None) = sym (append-nil order) ∙ ap (λ l. order ++ reverse l) (sym (chain-none ps (suc k))) in
    subst (λ l. IsGrown ps l None) same (record { first = first; has = λ x e. absurd (cc) })
line_added ps w order first (suc k) (Some i) inside end =
    let up = line_added ps w order first k (step ps i) (w i) (λ x e. end x (lift-suc ps k (Some i) ∙ e)) in
    let above : List ℕ = order ++ reverse (chain ps k (step ps i)) in
    let same : above ++ i ∷ [] ≡ order ++ reverse (chain ps (suc k) (Some i)) =
    append_assoc order (reverse (chain ps k (step ps i))) (i ∷ []) ∙ ap (λ l. order ++ l) (sym (reverse_onto (chain ps k (step ps i)) i [])) ∙ ap (λ l. order ++ reverse l) (sym (chain-suc ps k i)) in
    subst (λ l. IsGrown ps l (Some i)) same (record {
      first = first_push ps above i up.first (inside i refl) up.has;
      has = λ x e. let n : i ≡ x = cc in subst (λ y. has_number (above ++ i ∷ []) y ≡ true) n (last_in above i);
    })

-- the next number's line
pub order_more : (ps : List (Option ℕ)) → AreWithin ps → (order line : List ℕ) (taken : List Bool) (i : ℕ) → i < length ps → IsParentsFirst ps order → AreTaken ps order taken
    → ((y : ℕ) → y < i → has_number order y ≡ true) → IsLineDown ps taken i line → IsParentsFirst ps (order ++ line) × ((y : ℕ) → y < i + 1 → has_number (order ++ line) y ≡ true)
order_more ps w order line taken i h first marks all down =
    let k : ℕ = down.0 in
    let inside : (x : ℕ) → Some i ≡ Some x → x < length ps = λ x e. let n : i ≡ x = cc in subst (λ y. y < length ps) n h in
    let end : (x : ℕ) → lift ps k (Some i) ≡ Some x → has_number order x ≡ true = λ x e. sym (marks.1 x (lift_within ps w k (Some i) x inside e)) ∙ down.2 x e in
    let grown = line_added ps w order first k (Some i) inside end in
    let same : order ++ reverse (chain ps k (Some i)) ≡ order ++ line = ap (λ l. order ++ l) (sym down.1) in (
      subst (IsParentsFirst ps) same grown.first,
      λ y l. ⊎_elim (λ less. kept_in order line y (all y less))
          (λ past. let n : i ≡ y = omega arith in ap (λ l. has_number l y) (sym same) ∙ subst (λ z. has_number (order ++ reverse (chain ps k (Some i))) z ≡ true) n (grown.has i refl))
          (cases_lt y i),
    )
