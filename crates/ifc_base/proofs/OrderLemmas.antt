-- Steps of the order of values: by the heads where they differ, else by the values within.
use Rattle.std.proofs.Common.{rules, ◌≡◌, ℕ, Bool, true, false, List, [], ◌∷◌, ◌<◌, refl, sym, ap, subst, ◌∙◌, arith}
use Rattle.std.specs.declared.cmp.Ordering.{Ordering}
use Rattle.std.specs.declared.cmp.Ordering.TheVariants.{Less, Equal, Greater}
use Rattle.std.specs.Ordering.{is_ne, ordering_then}
use Rattle.std.specs.Cmp.Lexicographic.{slice_cmp}
use Rattle.ifc_base.specs.declared.value.Value.{Value}
use Rattle.ifc_base.specs.declared.value.ValueNode.{ValueNode, the_lemmas}
use Rattle.ifc_base.specs.declared.value.ValueNode.TheOpen.{ValueNode-F}
use Rattle.ifc_base.specs.declared.value.ValueNode.TheViews as node
use Rattle.ifc_base.specs.ValueOrder.{head_at, inner_at, head_of, head_same, inner_of, head_cmp, value_cmp, value_cmp_is, node_cmp}

pub decides : (r l : Ordering) → is_ne r ≡ true → r ≡ ordering_then r l
decides Less l e = refl
decides Equal l e = absurd (cc)
decides Greater l e = refl

pub level : (r : Ordering) → is_ne r ≡ false → r ≡ Equal
level Less e = absurd (cc)
level Equal e = refl
level Greater e = absurd (cc)

pub defers : (r l : Ordering) → is_ne r ≡ false → l ≡ ordering_then r l
defers r l e = ap (λ k. ordering_then k l) (sym (level r e))

-- where the heads differ they decide
pub node_by_head : (m n : ValueNode) (r : Ordering) → r ≡ head_cmp (head_of m) (head_of n) → is_ne r ≡ true → r ≡ node_cmp m n
node_by_head m n r e h =
    let rest = slice_cmp value_cmp (inner_of m) (inner_of n) in
    decides r rest h ∙ ap (λ k. ordering_then k rest) e ∙ sym (value_cmp_is (record { node = m }) (record { node = n }))

-- where they don't the values within do
pub node_by_inner : (m n : ValueNode) (r : Ordering) → r ≡ head_cmp (head_of m) (head_of n) → is_ne r ≡ false → slice_cmp value_cmp (inner_of m) (inner_of n) ≡ node_cmp m n
node_by_inner m n r e h =
    let rest = slice_cmp value_cmp (inner_of m) (inner_of n) in
    defers r rest h ∙ ap (λ k. ordering_then k rest) e ∙ sym (value_cmp_is (record { node = m }) (record { node = n }))

then_level : (r : Ordering) → r ≡ ordering_then r Equal
then_level Less = refl
then_level Equal = refl
then_level Greater = refl

pub inner_of_list : (n : ValueNode) (items : List Value) → n ≡ node.List items → inner_of n ≡ items
inner_of_list n items h = search (rules, the_lemmas)

pub inner_of_typed : (n : ValueNode) (name : List ℕ) (inner : Value) → n ≡ node.Typed name inner → inner_of n ≡ inner ∷ []
inner_of_typed n name inner h = search (rules, the_lemmas)

-- two typed parameters are ordered by the values within
pub node_by_typed : (m n : ValueNode) (r : Ordering) → r ≡ head_cmp (head_of m) (head_of n) → is_ne r ≡ false
    → (a b : List ℕ) (x y : Value) → m ≡ node.Typed a x → n ≡ node.Typed b y → value_cmp x y ≡ node_cmp m n
node_by_typed m n r e h a b x y p q =
    let one = inner_of_typed m a x p in
    let two = inner_of_typed n b y q in
    then_level (value_cmp x y) ∙ (λ i. slice_cmp value_cmp (sym one i) (sym two i)) ∙ node_by_inner m n r e h

-- whether the variant is none of those that hold values
abbrev pub is_bare : {A B : Type 0} → ValueNode-F A B → Bool
is_bare (ValueNode-F.List items) = false
is_bare (ValueNode-F.Typed name inner) = false
is_bare _ = true

bare_place : (l : ValueNode-F ValueNode Value) → is_bare l ≡ true → (head_at l).place < 8
bare_place ValueNode-F.Absent h = omega arith
bare_place ValueNode-F.Derived h = omega arith
bare_place (ValueNode-F.Int n) h = omega arith
bare_place (ValueNode-F.Real d) h = omega arith
bare_place (ValueNode-F.Text t) h = omega arith
bare_place (ValueNode-F.Enumer t) h = omega arith
bare_place (ValueNode-F.Binary t) h = omega arith
bare_place (ValueNode-F.Ref id) h = omega arith
bare_place (ValueNode-F.List xs) h = absurd (cc)
bare_place (ValueNode-F.Typed t x) h = absurd (cc)

-- variants before lists hold no values
inner_bare : (l : ValueNode-F ValueNode Value) → (head_at l).place < 8 → inner_at l ≡ []
inner_bare ValueNode-F.Absent h = refl
inner_bare ValueNode-F.Derived h = refl
inner_bare (ValueNode-F.Int n) h = refl
inner_bare (ValueNode-F.Real d) h = refl
inner_bare (ValueNode-F.Text t) h = refl
inner_bare (ValueNode-F.Enumer t) h = refl
inner_bare (ValueNode-F.Binary t) h = refl
inner_bare (ValueNode-F.Ref id) h = refl
inner_bare (ValueNode-F.List xs) h = let k : 8 < 8 = h in absurd (omega (arith, k))
inner_bare (ValueNode-F.Typed t x) h = let k : 9 < 8 = h in absurd (omega (arith, k))

-- where neither node holds values the heads decide
pub node_bare : (m n : ValueNode) (r : Ordering) → r ≡ head_cmp (head_of m) (head_of n) → is_ne r ≡ false → is_bare (node.out-ValueNode m) ≡ true → r ≡ node_cmp m n
node_bare m n r e h bare =
    let same = head_same (head_of m) (head_of n) (sym e ∙ level r h) in
    let low = bare_place (node.out-ValueNode m) bare in
    let one = inner_bare (node.out-ValueNode m) low in
    let two = inner_bare (node.out-ValueNode n) (subst (λ k. k.place < 8) same low) in
    level r h ∙ (λ i. slice_cmp value_cmp (sym one i) (sym two i)) ∙ node_by_inner m n r e h
