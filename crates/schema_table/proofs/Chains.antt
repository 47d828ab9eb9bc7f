-- Ways up in a list of parents.
use Rattle.std.proofs.Common.{◌≡◌, ℕ, zero, suc, ◌+◌, ◌-◌, ◌*◌, ◌<◌, ◌≤◌, Bool, true, false, ◌||◌, ◌==◌, eqb, List, [], ◌∷◌, ◌++◌, length, get_or, Option, Some, None, refl, ap, sym, ◌∙◌, subst, arith, append-nil, inl, inr, ◌⊎◌, ⊎_elim}
use Rattle.std.specs.List.{list_any, IsDistinct, AllByRecursion}
use Rattle.std.specs.Option.{option_and_then}
use Rattle.std.proofs.lemmas.Bool.{eq-eqb}
use Rattle.std.proofs.lemmas.Bool.Decides.{eqb_tells}
use Rattle.std.proofs.lemmas.Map.Steps.{length-le_from_distinct_below}
use Rattle.schema_table.specs.Climbing.{step, lift, chain}

module _ (ps : List (Option ℕ)) where
  pub lift-zero : (o : Option ℕ) → lift ps 0 o ≡ o
  unfolding lift
  lift-zero o = refl

  pub lift-suc : (k : ℕ) (o : Option ℕ) → lift ps (suc k) o ≡ lift ps k (option_and_then (step ps) o)
  unfolding lift
  lift-suc k o = refl

  pub lift-none : (k : ℕ) → lift ps k None ≡ None
  unfolding lift
  lift-none zero = refl
  lift-none (suc k) = lift-none k

  pub lift-add : (a b : ℕ) (o : Option ℕ) → lift ps (a + b) o ≡ lift ps b (lift ps a o)
  lift-add zero b o = let e : 0 + b ≡ b = omega arith in ap (λ n. lift ps n o) e ∙ ap (lift ps b) (sym (lift-zero o))
  lift-add (suc a) b o =
      let e : suc a + b ≡ suc (a + b) = omega arith in
      let up : Option ℕ = option_and_then (step ps) o in
      ap (λ n. lift ps n o) e ∙ lift-suc (a + b) o ∙ lift-add a b up ∙ ap (lift ps b) (sym (lift-suc a o))

  pub chain-none : (k : ℕ) → chain ps k None ≡ []
  unfolding chain
  chain-none zero = refl
  chain-none (suc k) = refl

  pub chain-suc : (k i : ℕ) → chain ps (suc k) (Some i) ≡ i ∷ chain ps k (step ps i)
  unfolding chain
  chain-suc k i = refl

  pub chain-zero : (o : Option ℕ) → chain ps 0 o ≡ []
  unfolding chain
  chain-zero o = refl

  pub chain-add : (a b : ℕ) (o : Option ℕ) → chain ps (a + b) o ≡ chain ps a o ++ chain ps b (lift ps a o)
  chain-add zero b o = let e : 0 + b ≡ b = omega arith in ap (λ n. chain ps n o) e ∙ rw (chain-zero o, lift-zero o) refl
  chain-add (suc a) b None = rw (chain-none (suc a + b), chain-none (suc a), lift-none (suc a), chain-none b) refl
  chain-add (suc a) b (Some i) =
      let e : suc a + b ≡ suc (a + b) = omega arith in
      ap (λ n. chain ps n (Some i)) e ∙ chain-suc (a + b) i ∙ ap (λ l. i ∷ l) (chain-add a b (step ps i))
      ∙ rw (chain-suc a i, lift-suc a (Some i)) refl

  -- what is passed is reached after as many steps
  pub passed : (k : ℕ) (o : Option ℕ) (y : ℕ) → list_any (λ x. x == y) (chain ps k o) ≡ true → (a : ℕ) × (a < k) × (lift ps a o ≡ Some y)
  passed zero o y h = absurd (let e : list_any (λ x. x == y) [] ≡ true = rw (chain-zero o) at h in cc)
  passed (suc k) None y h = absurd (let e : list_any (λ x. x == y) [] ≡ true = rw (chain-none (suc k)) at h in cc)
  passed (suc k) (Some i) y h =
      let e : (i == y || list_any (λ x. x == y) (chain ps k (step ps i))) ≡ true = rw (chain-suc k i) at h in
      ⊎_elim (λ t. (0, omega arith, lift-zero (Some i) ∙ ap Some t.1))
      (λ t.
      let rest : list_any (λ x. x == y) (chain ps k (step ps i)) ≡ true = sym (ap (λ b. b || list_any (λ x. x == y) (chain ps k (step ps i))) t.0) ∙ e in
      let p = passed k (step ps i) y rest in
      let less : p.0 < k = p.1 in
      (suc p.0, omega arith, lift-suc p.0 (Some i) ∙ p.2))
      (eqb_tells i y)

  -- and what is reached is passed
  pub reached : (k : ℕ) (o : Option ℕ) (a y : ℕ) → a < k → lift ps a o ≡ Some y → list_any (λ x. x == y) (chain ps k o) ≡ true
  reached zero o a y h e = absurd (omega arith)
  reached (suc k) None a y h e = absurd (let n : None ≡ Some y = sym (lift-none a) ∙ e in cc)
  reached (suc k) (Some i) zero y h e =
      let same : Some i ≡ Some y = sym (lift-zero (Some i)) ∙ e in
      let is : i == y ≡ true = eq-eqb i y (cc) in
      rw (chain-suc k i, is) refl
  reached (suc k) (Some i) (suc a) y h e =
      let rest : list_any (λ x. x == y) (chain ps k (step ps i)) ≡ true = reached k (step ps i) a y (omega arith) (sym (lift-suc a (Some i)) ∙ e) in
      rw (chain-suc k i, rest) (elim (i == y) as (λ b. (b || true) ≡ true) [ true ↦ refl | false ↦ refl ])

  -- a way that goes on passes one number a step
  pub length-chain : (k : ℕ) (o : Option ℕ) (z : ℕ) → lift ps k o ≡ Some z → length (chain ps (suc k) o) ≡ suc k
  length-chain zero None z e = absurd (let n : None ≡ Some z = sym (lift-none 0) ∙ e in cc)
  length-chain zero (Some i) z e = rw (chain-suc 0 i, chain-zero (step ps i)) refl
  length-chain (suc k) None z e = absurd (let n : None ≡ Some z = sym (lift-none (suc k)) ∙ e in cc)
  length-chain (suc k) (Some i) z e = rw (chain-suc (suc k) i) (ap suc (length-chain k (step ps i) z (sym (lift-suc k (Some i)) ∙ e)))

  -- a way that has ended passes no more
  pub chain_ended : (n k : ℕ) (o : Option ℕ) → n ≤ k → lift ps n o ≡ None → chain ps k o ≡ chain ps n o
  chain_ended n k o h e =
      let j : ℕ = k - n in
      let s : n + j ≡ k = omega arith in
      ap (λ m. chain ps m o) (sym s) ∙ chain-add n j o ∙ rw (e, chain-none j) (append-nil (chain ps n o))

  pub lift_ended : (n k : ℕ) (o : Option ℕ) → n ≤ k → lift ps n o ≡ None → lift ps k o ≡ None
  lift_ended n k o h e =
      let j : ℕ = k - n in
      let s : n + j ≡ k = omega arith in
      ap (λ m. lift ps m o) (sym s) ∙ lift-add n j o ∙ ap (lift ps j) e ∙ lift-none j

  -- what stands at a place of the way is reached after as many steps
  pub chain_at : (k : ℕ) (o : Option ℕ) (a : ℕ) → a < length (chain ps k o) → lift ps a o ≡ Some (get_or (chain ps k o) a 0)
  chain_at zero o a h = absurd (let l : a < 0 = rw (chain-zero o) at h in omega arith)
  chain_at (suc k) None a h = absurd (let l : a < 0 = rw (chain-none (suc k)) at h in omega arith)
  chain_at (suc k) (Some i) zero h = rw (chain-suc k i) (lift-zero (Some i))
  chain_at (suc k) (Some i) (suc a) h =
      let l : suc a < suc (length (chain ps k (step ps i))) = rw (chain-suc k i) at h in
      rw (chain-suc k i) (lift-suc a (Some i) ∙ chain_at k (step ps i) a (omega arith))

-- The numbers of parents are those of entities.
abbrev pub AreWithin : List (Option ℕ) → Type 0
AreWithin ps = (i y : ℕ) → step ps i ≡ Some y → y < length ps

pub lift_within : (ps : List (Option ℕ)) → AreWithin ps → (a : ℕ) (o : Option ℕ) (y : ℕ) → ((x : ℕ) → o ≡ Some x → x < length ps) → lift ps a o ≡ Some y → y < length ps
lift_within ps w zero o y h e = h y (sym (lift-zero ps o) ∙ e)
lift_within ps w (suc a) None y h e = absurd (let n : None ≡ Some y = sym (lift-none ps (suc a)) ∙ e in cc)
lift_within ps w (suc a) (Some i) y h e = lift_within ps w a (step ps i) y (λ x f. w i x f) (sym (lift-suc ps a (Some i)) ∙ e)

-- two places hold the same number
abbrev HasRepeat : List ℕ → Type 0
HasRepeat xs = (a b : ℕ) × (a < b) × (b < length xs) × (get_or xs a 0 ≡ get_or xs b 0)

place_in : (x : ℕ) (xs : List ℕ) → list_any (eqb x) xs ≡ true → (k : ℕ) × (k < length xs) × (get_or xs k 0 ≡ x)
place_in x [] h = absurd (cc)
place_in x (y ∷ ys) h =
    ⊎_elim (λ t. (0, omega arith, sym t.1))
    (λ t. let p = place_in x ys (sym (ap (λ b. b || list_any (eqb x) ys) t.0) ∙ h) in let l : p.0 < length ys = p.1 in (suc p.0, omega arith, p.2))
    (eqb_tells x y)

differs : (x : ℕ) (xs : List ℕ) → list_any (eqb x) xs ≡ false → AllByRecursion (λ y. eqb x y ≡ false) xs
differs x [] h = tt
differs x (y ∷ ys) h =
    let F : Bool → Type 0 = λ b. eqb x y ≡ b → (b || list_any (eqb x) ys) ≡ false → AllByRecursion (λ z. eqb x z ≡ false) (y ∷ ys) in
    let at : F (eqb x y) = elim (eqb x y) as F [ true ↦ λ f k. absurd (cc) | false ↦ λ f k. (f, differs x ys k) ] in
    at refl h

repeats : (xs : List ℕ) → IsDistinct eqb xs ⊎ HasRepeat xs
unfolding IsDistinct
repeats [] = inl tt
repeats (x ∷ xs) =
    let F : Bool → Type 0 = λ b. list_any (eqb x) xs ≡ b → IsDistinct eqb (x ∷ xs) ⊎ HasRepeat (x ∷ xs) in
    let at : F (list_any (eqb x) xs) = elim (list_any (eqb x) xs) as F [
      | true ↦ λ f. let p = place_in x xs f in let l : p.0 < length xs = p.1 in inr (0, suc p.0, omega arith, omega arith, sym p.2)
      | false ↦ λ f. ⊎_elim (λ d. inl (differs x xs f, d)) (λ r. let l : r.0 < r.1 = r.2 in let m : r.1 < length xs = r.3 in inr (suc r.0, suc r.1, omega arith, omega arith, r.4)) (repeats xs)
    ] in
    at refl

-- two numbers of steps within the number of entities that lead to the same one
abbrev pub ComesAgain : List (Option ℕ) → Option ℕ → Type 0
ComesAgain ps o = (a b : ℕ) × (a < b) × (b ≤ length ps) × (lift ps a o ≡ lift ps b o)

same_test : (q : ℕ) (xs : List ℕ) → list_any (eqb q) xs ≡ true → list_any (λ x. x == q) xs ≡ true
same_test q [] f = f
same_test q (x ∷ xs) f =
    ⊎_elim
    (λ t. let e : x == q ≡ true = eq-eqb x q (sym t.1) in rw e refl)
    (λ t.
    let rest : list_any (λ y. y == q) xs ≡ true = same_test q xs (sym (ap (λ b. b || list_any (eqb q) xs) t.0) ∙ f) in
    rw rest (elim (x == q) as (λ b. (b || true) ≡ true) [ true ↦ refl | false ↦ refl ]))
    (eqb_tells q x)

-- A way that goes on for as many steps as there are entities comes to one of them again.
pub comes_again : (ps : List (Option ℕ)) → AreWithin ps → (i z : ℕ) → i < length ps → lift ps (length ps) (Some i) ≡ Some z → ComesAgain ps (Some i)
comes_again ps w i z h e =
    let n : ℕ = length ps in
    let way : List ℕ = chain ps (suc n) (Some i) in
    let long : length way ≡ suc n = length-chain ps n (Some i) z e in
    ⊎_elim
    (λ d. absurd (let short : length way ≤ n = length-le_from_distinct_below way n d (λ q f.
    let p = passed ps (suc n) (Some i) q (same_test q way f) in lift_within ps w p.0 (Some i) q (λ x g. let k : i ≡ x = cc in subst (λ y. y < n) k h) p.2) in omega arith))
    (λ r.
    let l : r.0 < r.1 = r.2 in
    let m : r.1 < length way = r.3 in
    let first : lift ps r.0 (Some i) ≡ Some (get_or way r.0 0) = chain_at ps (suc n) (Some i) r.0 (omega arith) in
    let second : lift ps r.1 (Some i) ≡ Some (get_or way r.1 0) = chain_at ps (suc n) (Some i) r.1 (omega arith) in
    (r.0, r.1, l, omega arith, first ∙ ap Some r.4 ∙ sym second))
    (repeats way)

-- the way up from here comes back here
abbrev pub IsOnCycle : List (Option ℕ) → ℕ → Type 0
IsOnCycle ps y = (c : ℕ) × (c < length ps) × (lift ps (suc c) (Some y) ≡ Some y)

-- what is reached isn't none before
there_before : (ps : List (Option ℕ)) (a k : ℕ) (o : Option ℕ) (z : ℕ) → a ≤ k → lift ps k o ≡ Some z → (x : ℕ) × (lift ps a o ≡ Some x)
there_before ps a k o z h e =
    let F : Option ℕ → Type 0 = λ p. lift ps a o ≡ p → (x : ℕ) × (lift ps a o ≡ Some x) in
    let at : F (lift ps a o) = elim (lift ps a o) as F [
      | None ↦ λ f. absurd (let n : None ≡ Some z = sym (lift_ended ps a k o h f) ∙ e in cc)
      | Some x ↦ λ f. (x, f)
    ] in
    at refl

-- What is reached from elsewhere in as many steps as there are entities, or more, is on a cycle.
pub cycle_from_far : (ps : List (Option ℕ)) → AreWithin ps → (i y k : ℕ) → i < length ps → length ps ≤ k → lift ps k (Some i) ≡ Some y → IsOnCycle ps y
cycle_from_far ps w i y k h far e =
    let n : ℕ = length ps in
    let before = there_before ps n k (Some i) y far e in
    let r : ComesAgain ps (Some i) = comes_again ps w i before.0 h before.1 in
    let l : r.0 < r.1 = r.2 in
    let m : r.1 ≤ n = r.3 in
    let c : ℕ = r.1 - r.0 in
    let j : ℕ = k - r.0 in
    let round : r.0 + c ≡ r.1 = omega arith in
    let rest : r.0 + j ≡ k = omega arith in
    let after : (r.0 + c) + j ≡ k + c = omega arith in
    let once : lift ps k (Some i) ≡ lift ps j (lift ps r.0 (Some i)) = ap (λ t. lift ps t (Some i)) (sym rest) ∙ lift-add ps r.0 j (Some i) in
    let twice : lift ps (k + c) (Some i) ≡ lift ps j (lift ps r.1 (Some i)) =
    ap (λ t. lift ps t (Some i)) (sym after) ∙ lift-add ps (r.0 + c) j (Some i) ∙ ap (λ t. lift ps j (lift ps t (Some i))) round in
    let back : lift ps c (Some y) ≡ Some y =
    ap (lift ps c) (sym e) ∙ sym (lift-add ps k c (Some i)) ∙ twice ∙ ap (lift ps j) (sym r.4) ∙ sym once ∙ e in
    let d : ℕ = c - 1 in
    let same : suc d ≡ c = omega arith in
    (d, omega arith, ap (λ t. lift ps t (Some y)) same ∙ back)

rounds : (ps : List (Option ℕ)) (c y k : ℕ) → lift ps c (Some y) ≡ Some y → lift ps (k * c) (Some y) ≡ Some y
rounds ps c y zero e = let z : 0 * c ≡ 0 = omega arith in ap (λ t. lift ps t (Some y)) z ∙ lift-zero ps (Some y)
rounds ps c y (suc k) e =
    let z : suc k * c ≡ c + k * c = omega arith in
    ap (λ t. lift ps t (Some y)) z ∙ lift-add ps c (k * c) (Some y) ∙ ap (lift ps (k * c)) e ∙ rounds ps c y k e

-- What is on a cycle is reached from somewhere in any number of steps.
pub far_from_cycle : (ps : List (Option ℕ)) → AreWithin ps → (y k : ℕ) → y < length ps → IsOnCycle ps y → (i : ℕ) × (i < length ps) × (lift ps k (Some i) ≡ Some y)
far_from_cycle ps w y k h o =
    let c : ℕ = suc o.0 in
    let all : lift ps (k * c) (Some y) ≡ Some y = rounds ps c y k o.2 in
    let front : ℕ = k * o.0 in
    let split : front + k ≡ k * c = omega arith in
    let there : lift ps (front + k) (Some y) ≡ Some y = ap (λ t. lift ps t (Some y)) split ∙ all in
    let before = there_before ps front (front + k) (Some y) y (omega arith) there in
    let i : ℕ = before.0 in
    let within : i < length ps = lift_within ps w front (Some y) i (λ x f. let e : y ≡ x = cc in subst (λ t. t < length ps) e h) before.1 in
    (i, within, ap (lift ps k) (sym before.1) ∙ sym (lift-add ps front k (Some y)) ∙ there)

-- Where nothing is on a cycle each way ends within as many steps as there are entities.
pub ends_without_cycle : (ps : List (Option ℕ)) → AreWithin ps → ((y : ℕ) → y < length ps → IsOnCycle ps y → ⊥) → (i : ℕ) → i < length ps → lift ps (length ps) (Some i) ≡ None
ends_without_cycle ps w none i h =
    let n : ℕ = length ps in
    let F : Option ℕ → Type 0 = λ p. lift ps n (Some i) ≡ p → lift ps n (Some i) ≡ None in
    let at : F (lift ps n (Some i)) = elim (lift ps n (Some i)) as F [
      | None ↦ λ f. f
      | Some z ↦ λ f.
          let r : ComesAgain ps (Some i) = comes_again ps w i z h f in
          let l : r.0 < r.1 = r.2 in
          let m : r.1 ≤ n = r.3 in
          let first = there_before ps r.0 n (Some i) z (omega arith) f in
          let y : ℕ = first.0 in
          let within : y < n = lift_within ps w r.0 (Some i) y (λ x g. let e : i ≡ x = cc in subst (λ t. t < n) e h) first.1 in
          let d : ℕ = r.1 - r.0 - 1 in
          let round : r.0 + suc d ≡ r.1 = omega arith in
          let back : lift ps (suc d) (Some y) ≡ Some y =
          ap (lift ps (suc d)) (sym first.1) ∙ sym (lift-add ps r.0 (suc d) (Some i)) ∙ ap (λ t. lift ps t (Some i)) round ∙ sym r.4 ∙ first.1 in
          absurd (none y within (d, omega arith, back))
    ] in
    at refl
