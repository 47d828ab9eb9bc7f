-- What the loops of the code want to know of lists.
use Rattle.std.proofs.Common.{◌≡◌, ◌≢◌, ◌<◌, ◌+◌, ◌-◌, ℕ, zero, suc, List, [], ◌∷◌, ◌++◌, length, map, take, get_or, fold, refl, sym, ap, ◌∙◌, arith, append_assoc, add-one}
use Rattle.std.specs.Prelude.{reverse}
use Rattle.std.specs.Borrow.{Bor}
use Rattle.std.proofs.lemmas.List.{append-nil, reverse-append}
use Rattle.pattern_tree.specs.declared.program.Op.{Op}
use Rattle.pattern_tree.specs.declared.tree.Set.{Set}
use Rattle.pattern_tree.specs.declared.tree.Tree.{Tree}
use Rattle.pattern_tree.specs.declared.program.Part.{Part}
use Rattle.pattern_tree.specs.Programs.{power, program, programs}
use Rattle.pattern_tree.specs.Trees.{values, is_of, sets_of, one_after_another, hits_in}

-- one more copy
pub power_twice : (n : ℕ) (ops : List Op) → power n ops ++ ops ≡ ops ++ power n ops
power_twice zero ops = sym (append-nil ops)
power_twice (suc n) ops = append_assoc ops (power n ops) ops ∙ ap (λ t. ops ++ t) (power_twice n ops)

pub power_more : (n : ℕ) (ops : List Op) → power (n + 1) ops ≡ power n ops ++ ops
power_more n ops = ap (λ k. power k ops) (add-one n) ∙ sym (power_twice n ops)

-- what is kept last stands first
pub reverse_push : {A : Type 0} (xs : List A) (x : A) → reverse (xs ++ x ∷ []) ≡ x ∷ reverse xs
reverse_push xs x = reverse-append xs (x ∷ [])

-- one more pattern has its sets behind the others'
sets_suc : (ts : List Tree) (i : ℕ) (d : Tree) → i < length ts
    → one_after_another (map sets_of (take (suc i) ts)) ≡ one_after_another (map sets_of (take i ts)) ++ sets_of (get_or ts i d)
sets_suc [] i d h = absurd (omega arith)
sets_suc (t ∷ ts) zero d h = append-nil (sets_of t)
sets_suc (t ∷ ts) (suc i) d h =
    ap (λ l. sets_of t ++ l) (sets_suc ts i d (omega arith))
    ∙ sym (append_assoc (sets_of t) (one_after_another (map sets_of (take i ts))) (sets_of (get_or ts i d)))

sets_more : (ts : List Tree) (i : ℕ) (d : Tree) → i < length ts
    → one_after_another (map sets_of (take (i + 1) ts)) ≡ one_after_another (map sets_of (take i ts)) ++ sets_of (get_or ts i d)
sets_more ts i d h = ap (λ k. one_after_another (map sets_of (take k ts))) (add-one i) ∙ sets_suc ts i d h

-- one more set tells behind the others
hits_suc : (sets : List (Bor Set)) (i : ℕ) (d : Bor Set) (c : ℕ) → i < length sets
    → hits_in (values (take (suc i) sets)) c ≡ hits_in (values (take i sets)) c ++ is_of (get_or sets i d).now c ∷ []
hits_suc [] i d c h = absurd (omega arith)
hits_suc (set ∷ sets) zero d c h = refl
hits_suc (set ∷ sets) (suc i) d c h = ap (λ l. is_of set.now c ∷ l) (hits_suc sets i d c (omega arith))

pub hits_more : (sets : List (Bor Set)) (i : ℕ) (d : Bor Set) (c : ℕ) → i < length sets
    → hits_in (values (take (i + 1) sets)) c ≡ hits_in (values (take i sets)) c ++ is_of (get_or sets i d).now c ∷ []
hits_more sets i d c h = ap (λ k. hits_in (values (take k sets)) c) (add-one i) ∙ hits_suc sets i d c h

-- one more pattern has its program behind the others'
programs_suc : (ts : List Tree) (i : ℕ) (d : Tree) (n : ℕ) → i < length ts
    → programs (take (suc i) ts) n ≡ (let r = programs (take i ts) n in let p = program (get_or ts i d) r.1 in let q : List Part × ℕ = (r.0 ++ p.0 ∷ [], p.1) in q)
programs_suc [] i d n h = absurd (omega arith)
programs_suc (t ∷ ts) zero d n h = refl
programs_suc (t ∷ ts) (suc i) d n h =
    ap (λ r. let q : List Part × ℕ = ((program t n).0 ∷ r.0, r.1) in q) (programs_suc ts i d (program t n).1 (omega arith))

pub programs_more : (ts : List Tree) (i : ℕ) (d : Tree) (n : ℕ) → i < length ts
    → programs (take (i + 1) ts) n ≡ (let r = programs (take i ts) n in let p = program (get_or ts i d) r.1 in let q : List Part × ℕ = (r.0 ++ p.0 ∷ [], p.1) in q)
programs_more ts i d n h = ap (λ k. programs (take k ts) n) (add-one i) ∙ programs_suc ts i d n h

-- ---- the steps of the loops, over plain variables

pub copies_step : (n : ℕ) (part old now new : List Op) → now ≡ old ++ power n part → new ≡ now ++ part → new ≡ old ++ power (n + 1) part
copies_step n part old now new e f =
    f ∙ ap (λ t. t ++ part) e ∙ append_assoc old (power n part) part ∙ ap (λ t. old ++ t) (sym (power_more n part))

pub copies_last : (n : ℕ) (part old now new : List Op) → n ≢ 0 → now ≡ old ++ power (n - 1) part → new ≡ now ++ part → new ≡ old ++ power n part
copies_last n part old now new some e f =
    let number : (n - 1) + 1 ≡ n = omega arith in
    copies_step (n - 1) part old now new e f ∙ ap (λ k. old ++ power k part) number

pub sets_step : (ts : List Tree) (i : ℕ) (t : Tree) (old now new : List Set) → i < length ts → t ≡ get_or ts i t → now ≡ old ++ one_after_another (map sets_of (take i ts))
    → new ≡ now ++ sets_of t → new ≡ old ++ one_after_another (map sets_of (take (i + 1) ts))
sets_step ts i t old now new h e f g =
    let before = one_after_another (map sets_of (take i ts)) in
    g
    ∙ ap (λ l. l ++ sets_of t) f
    ∙ append_assoc old before (sets_of t)
    ∙ ap (λ x. old ++ (before ++ sets_of x)) e
    ∙ ap (λ l. old ++ l) (sym (sets_more ts i t h))

fold_behind : {S : Type 0} (f : S → Part → S) (start : S) (ps : List Part) (p : Part) → fold f start (ps ++ p ∷ []) ≡ f (fold f start ps) p
fold_behind f start [] p = refl
fold_behind f start (q ∷ ps) p = fold_behind f (f start q) ps p

-- one more program, where programs are taken one after another
pub programs_step : {S : Type 0} (f : S → Part → S) (start : S) (ts : List Tree) (i : ℕ) (t : Tree) (n : ℕ) (now : S) (sets : ℕ) (p : Part) (sets' : ℕ) (new : S)
    → i < length ts → t ≡ get_or ts i t → (let q : S × ℕ = (fold f start (programs (take i ts) n).0, (programs (take i ts) n).1) in q) ≡ (now, sets)
    → program t sets ≡ (let r : Part × ℕ = (p, sets') in r) → new ≡ f now p
    → (let q : S × ℕ = (fold f start (programs (take (i + 1) ts) n).0, (programs (take (i + 1) ts) n).1) in q) ≡ (new, sets')
programs_step {S} f start ts i t n now sets p sets' new h e g k l =
    let before = programs (take i ts) n in
    let last = program (get_or ts i t) before.1 in
    ap (λ (r : List Part × ℕ). let q : S × ℕ = (fold f start r.0, r.1) in q) (programs_more ts i t n h)
    ∙ ap (λ y. let q : S × ℕ = (y, last.1) in q) (fold_behind f start before.0 last.0)
    ∙ ap (λ (x : S × ℕ). let r = program (get_or ts i t) x.1 in let q : S × ℕ = (f x.0 r.0, r.1) in q) g
    ∙ ap (λ y. let r = program y sets in let q : S × ℕ = (f now r.0, r.1) in q) (sym e)
    ∙ ap (λ (r : Part × ℕ). let q : S × ℕ = (f now r.0, r.1) in q) k
    ∙ ap (λ y. let q : S × ℕ = (y, sets') in q) (sym l)
