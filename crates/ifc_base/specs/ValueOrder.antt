-- The order of values: by the place of the variant, then by its contents; lists item by item.
use Rattle.std.specs.Prelude.{◌≡◌, ℕ, ◌==◌, ℤ, pos, negsuc, Bool, true, false, List, [], ◌∷◌, map, encode_utf8_all, if◌then◌else◌, refl}
use Rattle.std.specs.declared.cmp.Ordering.{Ordering}
use Rattle.std.specs.declared.cmp.Ordering.TheVariants.{Less, Equal, Greater}
use Rattle.std.specs.Ordering.{nat_cmp, int_cmp, bool_cmp, on, then_cmp, is_eq, ordering_then, ordering_reverse}
use Rattle.std.specs.Cmp.{IsTotalOrder, IsEquivalence, nat_cmp_total, int_cmp_total, bool_cmp_total, then_total, tied_itself, Equal-is, on_total, alike_right, then_flip, unsigned_ties, unsigned_Decides, signed_Decides}
use Rattle.std.specs.Cmp.Lexicographic.{on_texts, slice_cmp}
use Rattle.std.specs.Bool.{Decides, one_answer}
use Rattle.std.proofs.Common.{ap, sym, subst, ◌∙◌}
use Rattle.std.proofs.lemmas.Slice.Eq.{bytes_eq-Decides}
use Rattle.ifc_base.specs.NameOrder.{name_cmp, name_ties}
use Rattle.ifc_base.specs.declared.value.Value.{Value}
use Rattle.ifc_base.specs.declared.value.ValueNode.{ValueNode}
use Rattle.ifc_base.specs.declared.value.ValueNode.TheOpen.{ValueNode-F}
use Rattle.ifc_base.specs.declared.value.ValueNode.TheVariants as node
use Rattle.ifc_base.specs.declared.value.ValueNode.TheFolds.{ind-Value, map-ValueNode, fold-ValueNode, fold-roll-Value, fold-roll-ValueNode, fold_out-Value, fold_out-ValueNode}
use Rattle.ifc_base.specs.declared.value.ValueNode.TheViews.{roll-Value, roll-ValueNode, out-ValueNode}
use Rattle.ifc_base.specs.Same.{value_eq, value_eq-Decides, equivalence_from_decides}
use Rattle.ifc_base.specs.Tree.{fold_value}

-- what a value holds besides other values: the variant's place, a number, a mark and a text
pub record Head : Type 0 where
  pub place : ℕ
  pub number : ℤ
  pub mark : Bool
  pub text : List ℕ

-- the order of heads: the fields', from the first on
abbrev pub head_cmp : Head → Head → Ordering
head_cmp = then_cmp (on (λ (h : Head). h.place) nat_cmp)
    (then_cmp (on (λ (h : Head). h.number) int_cmp) (then_cmp (on (λ (h : Head). h.mark) bool_cmp) (on (λ (h : Head). h.text) name_cmp)))

head_total : IsTotalOrder head_cmp
head_total = then_total (on_total (λ (h : Head). h.place) nat_cmp_total)
    (then_total (on_total (λ (h : Head). h.number) int_cmp_total)
    (then_total (on_total (λ (h : Head). h.mark) bool_cmp_total) (on_total (λ (h : Head). h.text) (on_texts encode_utf8_all))))

-- where the first and then the second answer `Equal`, both do
then_both : (r s : Ordering) → ordering_then r s ≡ Equal → (r ≡ Equal) × (s ≡ Equal)
then_both Less s e = absurd (cc)
then_both Equal s e = (refl, e)
then_both Greater s e = absurd (cc)

bool_same : (x y : Bool) → bool_cmp x y ≡ Equal → x ≡ y
bool_same false false e = refl
bool_same false true e = absurd (cc)
bool_same true false e = absurd (cc)
bool_same true true e = refl

pub head_same : (a b : Head) → head_cmp a b ≡ Equal → a ≡ b
head_same a b e =
    let one = then_both _ _ e in
    let two = then_both _ _ one.1 in
    let three = then_both _ _ two.1 in
    let place : a.place ≡ b.place = (unsigned_Decides a.place b.place).0 (unsigned_ties a.place b.place ∙ ap is_eq one.0) in
    let number : a.number ≡ b.number = (signed_Decides a.number b.number).0 (ap is_eq two.0) in
    let mark : a.mark ≡ b.mark = bool_same a.mark b.mark three.0 in
    let text : a.text ≡ b.text = (bytes_eq-Decides a.text b.text).0 (name_ties a.text b.text ∙ ap is_eq three.1) in
    λ i. record { place = place i; number = number i; mark = mark i; text = text i }

-- trees in a row: the head of the first one, what hangs below it, and the trees behind it
pub data Forest : Type 0 where
  bare : Forest
  grown : Head → Forest → Forest → Forest

-- the order of forests: tree by tree, each by its head and then by what hangs below it
pub forest_cmp : Forest → Forest → Ordering
forest_cmp bare bare = Equal
forest_cmp bare (grown h c s) = Less
forest_cmp (grown h c s) bare = Greater
forest_cmp (grown h c s) (grown k d t) = ordering_then (head_cmp h k) (ordering_then (forest_cmp c d) (forest_cmp s t))

forest_turn : (x y : Forest) → forest_cmp x y ≡ ordering_reverse (forest_cmp y x)
unfolding forest_cmp
forest_turn bare bare = refl
forest_turn bare (grown h c s) = refl
forest_turn (grown h c s) bare = refl
forest_turn (grown h c s) (grown k d t) =
    (λ i. ordering_then (head_total.antisymm h k i) (ordering_then (forest_turn c d i) (forest_turn s t i)))
    ∙ ap (λ r. ordering_then (ordering_reverse (head_cmp k h)) r) (then_flip (forest_cmp d c) (forest_cmp t s))
    ∙ then_flip (head_cmp k h) (ordering_then (forest_cmp d c) (forest_cmp t s))

forest_same : (x y : Forest) → forest_cmp x y ≡ Equal → x ≡ y
unfolding forest_cmp
forest_same bare bare e = refl
forest_same bare (grown h c s) e = absurd (cc)
forest_same (grown h c s) bare e = absurd (cc)
forest_same (grown h c s) (grown k d t) e =
    let one = then_both (head_cmp h k) (ordering_then (forest_cmp c d) (forest_cmp s t)) e in
    let two = then_both (forest_cmp c d) (forest_cmp s t) one.1 in
    λ i. grown (head_same h k one.0 i) (forest_same c d two.0 i) (forest_same s t two.1 i)

-- "less" chains through the first and then the second, where it does through each
then_chain : (r t u p q s : Ordering) → (r ≡ Less → t ≡ Less → u ≡ Less) → (r ≡ Equal → u ≡ t) → (t ≡ Equal → u ≡ r)
    → (p ≡ Less → q ≡ Less → s ≡ Less) → ordering_then r p ≡ Less → ordering_then t q ≡ Less → ordering_then u s ≡ Less
then_chain Less Less u p q s a b c d h g = ap (λ k. ordering_then k s) (a refl refl)
then_chain Less Equal u p q s a b c d h g = ap (λ k. ordering_then k s) (c refl)
then_chain Less Greater u p q s a b c d h g = absurd (cc)
then_chain Equal Less u p q s a b c d h g = ap (λ k. ordering_then k s) (b refl)
then_chain Equal Equal u p q s a b c d h g = ap (λ k. ordering_then k s) (b refl) ∙ d h g
then_chain Equal Greater u p q s a b c d h g = absurd (cc)
then_chain Greater t u p q s a b c d h g = absurd (cc)

forest_chain : (x y z : Forest) → forest_cmp x y ≡ Less → forest_cmp y z ≡ Less → forest_cmp x z ≡ Less
unfolding forest_cmp
forest_chain bare bare z h g = g
forest_chain bare (grown k d t) bare h g = absurd (cc)
forest_chain bare (grown k d t) (grown l e v) h g = refl
forest_chain (grown j c s) bare z h g = absurd (cc)
forest_chain (grown j c s) (grown k d t) bare h g = g
forest_chain (grown j c s) (grown k d t) (grown l e v) h g =
    then_chain (head_cmp j k) (head_cmp k l) (head_cmp j l)
    (ordering_then (forest_cmp c d) (forest_cmp s t)) (ordering_then (forest_cmp d e) (forest_cmp t v)) (ordering_then (forest_cmp c e) (forest_cmp s v))
    (head_total.trans j k l) (head_total.congr j k l) (λ q. sym (alike_right head_total k l j q))
    (then_chain (forest_cmp c d) (forest_cmp d e) (forest_cmp c e) (forest_cmp s t) (forest_cmp t v) (forest_cmp s v)
    (forest_chain c d e) (λ q. ap (λ w. forest_cmp w e) (forest_same c d q)) (λ q. ap (λ w. forest_cmp c w) (sym (forest_same d e q)))
    (forest_chain s t v)) h g

forest_total : IsTotalOrder forest_cmp
forest_total = record {
  antisymm = forest_turn;
  trans = forest_chain;
  congr = λ x y z e. ap (λ w. forest_cmp w z) (forest_same x y e);
}

-- a head of this place and number, of this place and text
abbrev head_number : ℕ → ℤ → Head
head_number n k = record { place = n; number = k; mark = false; text = [] }

abbrev head_text : ℕ → List ℕ → Head
head_text n text = record { place = n; number = pos 0; mark = false; text = text }

-- the head of one level: the variants' places as declared, and what they hold besides values
abbrev pub head_at : {A B : Type 0} → ValueNode-F A B → Head
head_at ValueNode-F.Absent = head_number 0 (pos 0)
head_at ValueNode-F.Derived = head_number 1 (pos 0)
head_at (ValueNode-F.Int n) = head_number 2 n
head_at (ValueNode-F.Real d) = record { place = 3; number = d.units; mark = d.beyond; text = [] }
head_at (ValueNode-F.Text text) = head_text 4 text
head_at (ValueNode-F.Enumer name) = head_text 5 name
head_at (ValueNode-F.Binary digits) = head_text 6 digits
head_at (ValueNode-F.Ref id) = head_number 7 (pos id)
head_at (ValueNode-F.List items) = head_number 8 (pos 0)
head_at (ValueNode-F.Typed name inner) = head_text 9 name

-- the values that one level holds
abbrev pub inner_at : {A B : Type 0} → ValueNode-F A B → List B
inner_at (ValueNode-F.List items) = items
inner_at (ValueNode-F.Typed name inner) = inner ∷ []
inner_at _ = []

-- these trees in a row
abbrev row : List (Head × Forest) → Forest
row [] = bare
row (t ∷ ts) = grown t.0 t.1 (row ts)

-- one level as a tree
abbrev tree_at : ValueNode-F (Head × Forest) (Head × Forest) → Head × Forest
tree_at level = (head_at level, row (inner_at level))

-- a value as a tree
abbrev tree_of : Value → Head × Forest
tree_of = fold_value tree_at

-- the order of trees: by the head, then by what hangs below it
abbrev tree_cmp : Head × Forest → Head × Forest → Ordering
tree_cmp = then_cmp (on (λ (t : Head × Forest). t.0) head_cmp) (on (λ (t : Head × Forest). t.1) forest_cmp)

-- the order of two values
unfoldable pub value_cmp : Value → Value → Ordering
value_cmp x y = tree_cmp (tree_of x) (tree_of y)

-- it is a total order
pub value_total : IsTotalOrder value_cmp
unfolding value_cmp
value_total = on_total tree_of (then_total (on_total (λ (t : Head × Forest). t.0) head_total) (on_total (λ (t : Head × Forest). t.1) forest_total))

-- ---- a value is told by its tree

-- the number behind an integer that is none below 0
size : ℤ → ℕ
size (pos n) = n
size (negsuc n) = n

-- the first of the values
first : List Value → Value
first [] = record { node = node.Absent }
first (x ∷ xs) = x

-- the node with this head and these values in it
abbrev node_with : Head → List Value → ValueNode
node_with h items =
    if h.place == 0 then node.Absent else (if h.place == 1 then node.Derived else (
    if h.place == 2 then node.Int h.number else (
    if h.place == 3 then node.Real (record { units = h.number; beyond = h.mark }) else (
    if h.place == 4 then node.Text h.text else (if h.place == 5 then node.Enumer h.text else (
    if h.place == 6 then node.Binary h.text else (if h.place == 7 then node.Ref (size h.number) else (
    if h.place == 8 then node.List items else node.Typed h.text (first items)))))))))

-- the values of these trees
abbrev values_of : Forest → List Value
values_of bare = []
values_of (grown h c s) = record { node = node_with h (values_of c) } ∷ values_of s

-- the value of this tree
abbrev value_of : Head × Forest → Value
value_of t = record { node = node_with t.0 (values_of t.1) }

-- the tree of a value by its level
tree_roll : (l : ValueNode-F ValueNode Value)
    → tree_of (record { node = roll-ValueNode l }) ≡ tree_at (map-ValueNode ValueNode Value (Head × Forest) (Head × Forest) (fold-ValueNode (Head × Forest) (Head × Forest) tree_at (λ w. w.node)) tree_of l)
tree_roll l = fold-roll-Value (Head × Forest) (Head × Forest) tree_at (λ w. w.node) (record { node = roll-ValueNode l })
    ∙ fold-roll-ValueNode (Head × Forest) (Head × Forest) tree_at (λ w. w.node) l

abbrev IsBack : Value → Type 0
IsBack v = value_of (tree_of v) ≡ v

abbrev IsNodeBack : ValueNode → Type 0
IsNodeBack n = IsBack (record { node = n })

rows_back : (ys : List ((v : Value) × IsBack v)) → values_of (row (map tree_of (map (λ e. e.0) ys))) ≡ map (λ e. e.0) ys
rows_back [] = refl
rows_back (e ∷ es) = λ i. e.1 i ∷ rows_back es i

node_back : (y : ValueNode-F ((n : ValueNode) × IsNodeBack n) ((v : Value) × IsBack v))
    → IsNodeBack (roll-ValueNode (map-ValueNode ((n : ValueNode) × IsNodeBack n) ((v : Value) × IsBack v) ValueNode Value (λ e. e.0) (λ e. e.0) y))
unfolding size first
node_back ValueNode-F.Absent = ap value_of (tree_roll ValueNode-F.Absent) ∙ ap (λ m. record { node = m }) (sym node.rolls-Absent)
node_back ValueNode-F.Derived = ap value_of (tree_roll ValueNode-F.Derived) ∙ ap (λ m. record { node = m }) (sym node.rolls-Derived)
node_back (ValueNode-F.Int n) = ap value_of (tree_roll (ValueNode-F.Int n)) ∙ ap (λ m. record { node = m }) (sym (node.rolls-Int n))
node_back (ValueNode-F.Real d) = ap value_of (tree_roll (ValueNode-F.Real d)) ∙ ap (λ m. record { node = m }) (sym (node.rolls-Real d))
node_back (ValueNode-F.Text t) = ap value_of (tree_roll (ValueNode-F.Text t)) ∙ ap (λ m. record { node = m }) (sym (node.rolls-Text t))
node_back (ValueNode-F.Enumer t) = ap value_of (tree_roll (ValueNode-F.Enumer t)) ∙ ap (λ m. record { node = m }) (sym (node.rolls-Enumer t))
node_back (ValueNode-F.Binary t) = ap value_of (tree_roll (ValueNode-F.Binary t)) ∙ ap (λ m. record { node = m }) (sym (node.rolls-Binary t))
node_back (ValueNode-F.Ref id) = ap value_of (tree_roll (ValueNode-F.Ref id)) ∙ ap (λ m. record { node = m }) (sym (node.rolls-Ref id))
node_back (ValueNode-F.List ys) = ap value_of (tree_roll (ValueNode-F.List (map (λ e. e.0) ys)))
    ∙ ap (λ xs. record { node = node.List xs }) (rows_back ys) ∙ ap (λ m. record { node = m }) (sym (node.rolls-List (map (λ e. e.0) ys)))
node_back (ValueNode-F.Typed t e) = ap value_of (tree_roll (ValueNode-F.Typed t e.0))
    ∙ ap (λ x. record { node = node.Typed t x }) e.1 ∙ ap (λ m. record { node = m }) (sym (node.rolls-Typed t e.0))

value_back : (v : Value) → IsBack v
value_back = ind-Value IsNodeBack IsBack
    (λ x y is. subst (λ z. IsNodeBack (roll-ValueNode z)) is (node_back y))
    (λ x y is. subst (λ z. IsBack (roll-Value z)) is y.node.1)

-- only equal values are tied
value_same : (x y : Value) → value_cmp x y ≡ Equal → x ≡ y
unfolding value_cmp
value_same x y e =
    let both = then_both (head_cmp (tree_of x).0 (tree_of y).0) (forest_cmp (tree_of x).1 (tree_of y).1) e in
    let heads = head_same (tree_of x).0 (tree_of y).0 both.0 in
    let rests = forest_same (tree_of x).1 (tree_of y).1 both.1 in
    sym (value_back x) ∙ (λ i. value_of (heads i, rests i)) ∙ value_back y

-- values are equal exactly where neither comes first
pub value_ties : (x y : Value) → value_eq x y ≡ is_eq (value_cmp x y)
value_ties x y = one_answer {P = x ≡ y} (value_eq x y) (is_eq (value_cmp x y)) (value_eq-Decides x y) (
  λ e. value_same x y ((Equal-is (value_cmp x y)).0 e),
  λ e. (Equal-is (value_cmp x y)).1 (ap (λ w. value_cmp x w) (sym e) ∙ tied_itself value_total x),
)

-- ---- the order by one level of both values

-- what the node holds besides values, and the values in it
abbrev pub head_of : ValueNode → Head
head_of n = head_at (out-ValueNode n)

abbrev pub inner_of : ValueNode → List Value
inner_of n = inner_at (out-ValueNode n)

level_tree : (l : ValueNode-F ValueNode Value) → tree_at (map-ValueNode ValueNode Value (Head × Forest) (Head × Forest) (fold-ValueNode (Head × Forest) (Head × Forest) tree_at (λ w. w.node)) tree_of l)
    ≡ (head_at l, row (map tree_of (inner_at l)))
level_tree ValueNode-F.Absent = refl
level_tree ValueNode-F.Derived = refl
level_tree (ValueNode-F.Int n) = refl
level_tree (ValueNode-F.Real d) = refl
level_tree (ValueNode-F.Text t) = refl
level_tree (ValueNode-F.Enumer t) = refl
level_tree (ValueNode-F.Binary t) = refl
level_tree (ValueNode-F.Ref id) = refl
level_tree (ValueNode-F.List xs) = refl
level_tree (ValueNode-F.Typed t x) = refl

tree_out : (x : Value) → tree_of x ≡ (head_of x.node, row (map tree_of (inner_of x.node)))
tree_out x = fold_out-Value (Head × Forest) (Head × Forest) tree_at (λ w. w.node) x
    ∙ fold_out-ValueNode (Head × Forest) (Head × Forest) tree_at (λ w. w.node) x.node ∙ level_tree (out-ValueNode x.node)

then_assoc : (p c l : Ordering) → ordering_then p (ordering_then c l) ≡ ordering_then (ordering_then p c) l
then_assoc Less c l = refl
then_assoc Equal c l = refl
then_assoc Greater c l = refl

row_cmp : (xs ys : List Value) → forest_cmp (row (map tree_of xs)) (row (map tree_of ys)) ≡ slice_cmp value_cmp xs ys
unfolding forest_cmp value_cmp
row_cmp [] [] = refl
row_cmp [] (y ∷ ys) = refl
row_cmp (x ∷ xs) [] = refl
row_cmp (x ∷ xs) (y ∷ ys) =
    then_assoc (head_cmp (tree_of x).0 (tree_of y).0) (forest_cmp (tree_of x).1 (tree_of y).1) (forest_cmp (row (map tree_of xs)) (row (map tree_of ys)))
    ∙ ap (λ r. ordering_then (tree_cmp (tree_of x) (tree_of y)) r) (row_cmp xs ys)

-- the order of two values: by what they hold besides other values, then by the values in them
pub value_cmp_is : (x y : Value) → value_cmp x y ≡ ordering_then (head_cmp (head_of x.node) (head_of y.node)) (slice_cmp value_cmp (inner_of x.node) (inner_of y.node))
unfolding value_cmp
value_cmp_is x y = (λ i. tree_cmp (tree_out x i) (tree_out y i))
    ∙ ap (λ r. ordering_then (head_cmp (head_of x.node) (head_of y.node)) r) (row_cmp (inner_of x.node) (inner_of y.node))

-- ---- nodes are ordered, and equal, as the values that they are the nodes of

-- the value with this node
abbrev as_value : ValueNode → Value
as_value n = record { node = n }

-- the order of two nodes
abbrev pub node_cmp : ValueNode → ValueNode → Ordering
node_cmp m n = value_cmp (record { node = m }) (record { node = n })

pub node_total : IsTotalOrder node_cmp
node_total = on_total as_value value_total

-- whether the two nodes are one
abbrev pub node_eq : ValueNode → ValueNode → Bool
node_eq m n = value_eq (record { node = m }) (record { node = n })

-- `node_eq` is true exactly where the two nodes are equal
pub node_eq-Decides : (m n : ValueNode) → Decides (node_eq m n) (m ≡ n)
node_eq-Decides m n =
    let same = value_eq-Decides (record { node = m }) (record { node = n }) in
    (λ e. ap (λ (v : Value). v.node) (same.0 e), λ e. same.1 (λ i. record { node = e i }))

pub node_eq-equiv : IsEquivalence node_eq
node_eq-equiv = equivalence_from_decides node_eq node_eq-Decides

-- nodes are equal exactly where neither comes first
pub node_ties : (m n : ValueNode) → node_eq m n ≡ is_eq (node_cmp m n)
node_ties m n = value_ties (record { node = m }) (record { node = n })
