-- Sets as they are searched.
use Rattle.std.proofs.Common.{◌≡◌, ◌<◌, ◌+◌, ℕ, zero, suc, Bool, true, false, ◌||◌, List, [], ◌∷◌, ◌++◌, length, take, get_or, fold, refl, sym, ap, ◌∙◌, ⊎_elim, arith}
use Rattle.std.proofs.Math.Bool.{or-false, or_assoc}
use Rattle.std.specs.Borrow.{Bor}
use Rattle.std.specs.List.{list_any}
use Rattle.pattern_tree.specs.declared.tree.Class.{Class}
use Rattle.pattern_tree.specs.declared.tree.Set.{Set}
use Rattle.pattern_tree.specs.declared.program.Op.{Op}
use Rattle.pattern_tree.specs.declared.search.SearchSet.{SearchSet}
use Rattle.pattern_tree.specs.Trees.{values, is_of, is_of_class, hits_in}
use Rattle.pattern_tree.specs.Machine.{Reached, taken}
use Rattle.pattern_tree.specs.Searching.{is_found, found_in, AreInOrder, AreRising}
use Rattle.std.proofs.lemmas.Bool.{true≢false, or_cases}
use Rattle.std.proofs.lemmas.List.Folds.{list_any-append}
use Rattle.pattern_tree.specs.declared.range.Range.{Range}
use Rattle.pattern_tree.specs.declared.tree.Part.{Part}
use Rattle.pattern_tree.specs.declared.tree.Part.TheVariants as part
use Rattle.pattern_tree.specs.Trees.{is_in_part}
use Rattle.pattern_tree.specs.Searching.{is_in_range, is_among}
use Rattle.pattern_tree.proofs.CodeLemmas.{hits_more}

-- one more set to search
pub found_push : (sets : List SearchSet) (set : SearchSet) (c : ℕ) → found_in (sets ++ set ∷ []) c ≡ found_in sets c ++ is_found set c ∷ []
found_push [] set c = refl
found_push (s ∷ sets) set c = ap (λ l. is_found s c ∷ l) (found_push sets set c)

-- words of the same answers take the text alike
pub fold_alike : (f g : ℕ → List Bool) (ops : List Op) (r : Reached) (s : List ℕ) → ((c : ℕ) → f c ≡ g c) → fold (taken f ops) r s ≡ fold (taken g ops) r s
fold_alike f g ops r [] same = refl
fold_alike f g ops r (c ∷ s) same =
    fold_alike f g ops (taken f ops r c) s same
    ∙ ap (λ hits. fold (taken g ops) (taken (λ _. hits) ops r c) s) (same c)

-- a class that is there says nothing new
pub class_there : (eq : Class → Bool) (class : Class) (known : List Class) (c : ℕ) → ((k : Class) → eq k ≡ true → k ≡ class) → list_any eq known ≡ true
    → list_any (λ k. is_of_class k c) known ≡ (list_any (λ k. is_of_class k c) known || is_of_class class c)
class_there eq class [] c law h = absurd (true≢false (sym h))
class_there eq class (k ∷ known) c law h = ⊎_elim
    (λ here. first (is_of_class k c) (list_any (λ k. is_of_class k c) known) (is_of_class class c) (ap (λ x. is_of_class x c) (law k here)))
    (λ later. rest (is_of_class k c) (list_any (λ k. is_of_class k c) known) (is_of_class class c) (class_there eq class known c law later))
    (or_cases (eq k) (list_any eq known) h)
  where
    first : (a b x : Bool) → a ≡ x → (a || b) ≡ ((a || b) || x)
    first true b x e = refl
    first false true x e = refl
    first false false x e = e

    rest : (a b x : Bool) → b ≡ (b || x) → (a || b) ≡ ((a || b) || x)
    rest true b x e = refl
    rest false b x e = e

-- ---- one more part
turned_round : (a b x : Bool) → ((a || x) || b) ≡ ((a || b) || x)
turned_round true b x = refl
turned_round false true true = refl
turned_round false true false = refl
turned_round false false true = refl
turned_round false false false = refl

pub range_pushed : (ranges ranges' : List Range) (known : List Class) (range : Range) (p : Part) (c : ℕ) → ranges' ≡ ranges ++ range ∷ [] → p ≡ part.Range range.first range.last
    → is_among ranges' known c ≡ (is_among ranges known c || is_in_part c p)
unfolding is_in_part
range_pushed ranges ranges' known range p c e f =
    let others = list_any (λ class. is_of_class class c) known in
    let before = list_any (is_in_range c) ranges in
    let new = is_in_range c range in
    ap (λ l. list_any (is_in_range c) l || others) e
    ∙ ap (λ b. b || others) (list_any-append (is_in_range c) ranges (range ∷ []))
    ∙ ap (λ b. (before || b) || others) (or-false new)
    ∙ turned_round before others new
    ∙ ap (λ x. (before || others) || is_in_part c x) (sym f)

pub class_pushed : (ranges : List Range) (known known' : List Class) (class : Class) (p : Part) (c : ℕ) → known' ≡ known ++ class ∷ [] → p ≡ part.Class class
    → is_among ranges known' c ≡ (is_among ranges known c || is_in_part c p)
unfolding is_in_part
class_pushed ranges known known' class p c e f =
    let before = list_any (is_in_range c) ranges in
    let others = list_any (λ class. is_of_class class c) known in
    let new = is_of_class class c in
    ap (λ l. before || list_any (λ class. is_of_class class c) l) e
    ∙ ap (λ b. before || b) (list_any-append (λ class. is_of_class class c) known (class ∷ []))
    ∙ ap (λ b. before || (others || b)) (or-false new)
    ∙ sym (or_assoc before others new)
    ∙ ap (λ x. (before || others) || is_in_part c x) (sym f)

pub class_known : (ranges : List Range) (known : List Class) (class : Class) (p : Part) (c : ℕ)
    → list_any (λ k. is_of_class k c) known ≡ (list_any (λ k. is_of_class k c) known || is_of_class class c) → p ≡ part.Class class
    → is_among ranges known c ≡ (is_among ranges known c || is_in_part c p)
unfolding is_in_part
class_known ranges known class p c e f =
    let before = list_any (is_in_range c) ranges in
    let others = list_any (λ class. is_of_class class c) known in
    ap (λ b. before || b) e
    ∙ sym (or_assoc before others (is_of_class class c))
    ∙ ap (λ x. (before || others) || is_in_part c x) (sym f)

-- ---- one more set
pub order_push : (searches : List SearchSet) (s : SearchSet) → AreInOrder searches → AreRising s.ranges.items → AreInOrder (searches ++ s ∷ [])
order_push [] s all one zero d h = one
order_push [] s all one (suc k) d h = absurd (omega arith)
order_push (x ∷ xs) s all one zero d h = all 0 d (omega arith)
order_push (x ∷ xs) s all one (suc k) d h = order_push xs s (λ i e l. all (suc i) e (omega arith)) one k d (omega arith)

pub same_push : (searches : List SearchSet) (s : SearchSet) (sets : List (Bor Set)) (i : ℕ) (set : Bor Set) (c : ℕ) → i < length sets → set ≡ get_or sets i set
    → found_in searches c ≡ hits_in (values (take i sets)) c → is_found s c ≡ is_of set.now c
    → found_in (searches ++ s ∷ []) c ≡ hits_in (values (take (i + 1) sets)) c
same_push searches s sets i set c l is before one =
    found_push searches s c
    ∙ ap (λ b. found_in searches c ++ b ∷ []) (one ∙ ap (λ (x : Bor Set). is_of x.now c) is)
    ∙ ap (λ hits. hits ++ is_of (get_or sets i set).now c ∷ []) before
    ∙ sym (hits_more sets i set c l)
