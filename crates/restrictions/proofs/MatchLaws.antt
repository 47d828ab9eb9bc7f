-- The test by splits decides what a pattern matches.
use Rattle.std.proofs.Common.{◌≡◌, ℕ, zero, suc, Bool, true, List, [], ◌∷◌, ◌⊎◌, inl, inr, map, refl, sym, ap, ◌∙◌, subst, rules}
use Rattle.std.specs.Prelude.{IsTrue, IfOk, Result, Ok, Err, ◌↔◌}
use Rattle.std.specs.Bool.{one_answer}
use Rattle.std.specs.List.{list_any}
use Rattle.ifc_base.specs.declared.memory.Memory.{Memory}
use Rattle.pattern_tree.specs.Matching.{Text, Permits, Matches, one, sequence, choice, repeat, InTurn, no_part, next_part, OfASide, first_side, later_side, Joined, no_text, next_text}
use Rattle.pattern_tree.specs.Trees.{fold_tree, is_of}
use Rattle.pattern_tree.specs.declared.tree.Set.{Set}
use Rattle.pattern_tree.specs.declared.tree.Times.{Times}
use Rattle.pattern_tree.specs.declared.tree.Tree.{Tree, the_lemmas}
use Rattle.pattern_tree.specs.declared.tree.Tree.TheVariants as pattern
use Rattle.pattern_tree.specs.declared.tree.Tree.TheVariants.{rolls-Set, rolls-Sequence, rolls-Choice, rolls-Repeat}
use Rattle.pattern_tree.specs.declared.tree.Tree.TheOpen.{Tree-F}
use Rattle.pattern_tree.specs.declared.tree.Tree.TheFolds.{ind-Tree}
use Rattle.pattern_tree.specs.declared.tree.Tree.TheViews.{out-Tree, roll-Tree}
use Rattle.restrictions.specs.Matching.{Test, does_match, match_at, is_one_of, is_empty, in_turn, repeats}
use Rattle.restrictions.specs.Laws.{DecidesMatches}
use Rattle.restrictions.proofs.Tests.{Tests, or_cases, or_first, or_second, and_parts, and_made}
use Rattle.restrictions.proofs.Splits.{Split, splits_so, empty_so, changed}
use Rattle.restrictions.proofs.Copies.{Power, Counted, repeats_so}

-- ---- the equations of one level

out_set : (set : Set) → out-Tree (pattern.Set set) ≡ Tree-F.Set set
out_set set = search (rules, the_lemmas)

out_sequence : (parts : List Tree) → out-Tree (pattern.Sequence parts) ≡ Tree-F.Sequence parts
out_sequence parts = search (rules, the_lemmas)

out_choice : (sides : List Tree) → out-Tree (pattern.Choice sides) ≡ Tree-F.Choice sides
out_choice sides = search (rules, the_lemmas)

out_repeat : (part : Tree) (times : Times) → out-Tree (pattern.Repeat part times) ≡ Tree-F.Repeat part times
out_repeat part times = search (rules, the_lemmas)

abbrev test_of : Tree → Test
test_of = fold_tree match_at

test_set : (set : Set) → test_of (pattern.Set set) ≡ match_at (Tree-F.Set set)
test_set set = search (rules, the_lemmas)

test_sequence : (parts : List Tree) → test_of (pattern.Sequence parts) ≡ match_at (Tree-F.Sequence (map test_of parts))
test_sequence parts = search (rules, the_lemmas)

test_choice : (sides : List Tree) → test_of (pattern.Choice sides) ≡ match_at (Tree-F.Choice (map test_of sides))
test_choice sides = search (rules, the_lemmas)

test_repeat : (part : Tree) (times : Times) → test_of (pattern.Repeat part times) ≡ match_at (Tree-F.Repeat (test_of part) times)
test_repeat part times = search (rules, the_lemmas)

-- ---- one level of matching, told by the pattern's form

abbrev By : Tree-F Tree → Text → Type 0
By (Tree-F.Set set) s = (c : ℕ) × (is_of set c ≡ true) × (s ≡ c ∷ [])
By (Tree-F.Sequence parts) s = InTurn parts s
By (Tree-F.Choice sides) s = OfASide sides s
By (Tree-F.Repeat part times) s = (n : ℕ) × Permits times n × Joined part n s

view : (t : Tree) (s : Text) → Matches t s → By (out-Tree t) s
view t s (one set c h) = subst (λ x. By x (c ∷ [])) (sym (out_set set)) (c, h, refl)
view t s (sequence parts text h) = subst (λ x. By x text) (sym (out_sequence parts)) h
view t s (choice sides text h) = subst (λ x. By x text) (sym (out_choice sides)) h
view t s (repeat part times n text p h) = subst (λ x. By x text) (sym (out_repeat part times)) (n, p, h)

of_set : (set : Set) (s : Text) → Matches (pattern.Set set) s → By (Tree-F.Set set) s
of_set set s h = subst (λ x. By x s) (out_set set) (view (pattern.Set set) s h)

of_sequence : (parts : List Tree) (s : Text) → Matches (pattern.Sequence parts) s → InTurn parts s
of_sequence parts s h = subst (λ x. By x s) (out_sequence parts) (view (pattern.Sequence parts) s h)

of_choice : (sides : List Tree) (s : Text) → Matches (pattern.Choice sides) s → OfASide sides s
of_choice sides s h = subst (λ x. By x s) (out_choice sides) (view (pattern.Choice sides) s h)

of_repeat : (part : Tree) (times : Times) (s : Text) → Matches (pattern.Repeat part times) s → By (Tree-F.Repeat part times) s
of_repeat part times s h = subst (λ x. By x s) (out_repeat part times) (view (pattern.Repeat part times) s h)

-- ---- a single-character part

one_is : (set : Set) (t : Text) → is_one_of set t ≡ true → Matches (pattern.Set set) t
one_is set [] e = absurd (cc)
one_is set (c ∷ t) e =
    let both = and_parts (is_of set c) (is_empty t) e in
    subst (λ u. Matches (pattern.Set set) (c ∷ u)) (sym (empty_so.sound t both.1)) (one set c both.0)

set_so : (set : Set) → Tests (is_one_of set) (Matches (pattern.Set set))
set_so set = record {
  sound = one_is set;
  complete = λ t h. let y = of_set set t h in ap (is_one_of set) y.2 ∙ and_made (is_of set y.0) true y.1 refl;
}

-- ---- sequences and sides, over tests of their parts

abbrev AllTest : List Tree → Type 0
AllTest [] = Unit {0}
AllTest (t ∷ ts) = Tests (test_of t) (Matches t) × AllTest ts

in_turn_nil : (s : Text) → InTurn [] s → s ≡ []
in_turn_nil s no_part = refl

in_turn_next : (t : Tree) (ts : List Tree) (s : Text) → InTurn (t ∷ ts) s → Split (Matches t) (InTurn ts) s
in_turn_next t ts s (next_part part parts first rest text e h k) = record { front = first; back = rest; parts = e; first = h; second = k }

in_turn_so : (ts : List Tree) → AllTest ts → Tests (in_turn (map test_of ts)) (InTurn ts)
in_turn_so [] h = changed is_empty (λ s. s ≡ []) (InTurn []) (λ s e. subst (InTurn []) (sym e) no_part) in_turn_nil empty_so
in_turn_so (t ∷ ts) h =
    changed (in_turn (map test_of (t ∷ ts))) (Split (Matches t) (InTurn ts)) (InTurn (t ∷ ts))
    (λ s x. next_part t ts x.front x.back s x.parts x.first x.second)
    (in_turn_next t ts)
    (splits_so (test_of t) (in_turn (map test_of ts)) (Matches t) (InTurn ts) h.0 (in_turn_so ts h.1))

abbrev of_sides : List Tree → Test
of_sides ts s = list_any (λ side. side s) (map test_of ts)

side_is : (ts : List Tree) → AllTest ts → (s : Text) → of_sides ts s ≡ true → OfASide ts s
side_is [] h s e = absurd (cc)
side_is (t ∷ ts) h s e = elim (or_cases (test_of t s) (of_sides ts s) e) [
  | inl x ↦ first_side t ts s (h.0.sound s x)
  | inr x ↦ later_side t ts s (side_is ts h.1 s x)
]

of_a_side : (t : Tree) (ts : List Tree) (s : Text) → OfASide (t ∷ ts) s → Matches t s ⊎ OfASide ts s
of_a_side t ts s (first_side side sides text h) = inl h
of_a_side t ts s (later_side side sides text h) = inr h

of_no_side : (s : Text) → OfASide [] s → ⊥
of_no_side s h = elim h [ ]

is_side : (ts : List Tree) → AllTest ts → (s : Text) → OfASide ts s → of_sides ts s ≡ true
is_side [] h s x = absurd (of_no_side s x)
is_side (t ∷ ts) h s x = elim (of_a_side t ts s x) [
  | inl y ↦ or_first (test_of t s) (of_sides ts s) (h.0.complete s y)
  | inr y ↦ or_second (test_of t s) (of_sides ts s) (is_side ts h.1 s y)
]

-- ---- repeats

joined_nil : (t : Tree) (s : Text) → Joined t zero s → s ≡ []
joined_nil t s (no_text part) = refl

joined_next : (t : Tree) (n : ℕ) (s : Text) → Joined t (suc n) s → Split (Matches t) (Joined t n) s
joined_next t n s (next_text part k first rest text e h j) = record { front = first; back = rest; parts = e; first = h; second = j }

joined_power : (t : Tree) (n : ℕ) (s : Text) → Joined t n s → Power (Matches t) n s
joined_power t zero s h = joined_nil t s h
joined_power t (suc n) s h =
    let next = joined_next t n s h in
    record { front = next.front; back = next.back; parts = next.parts; first = next.first; second = joined_power t n next.back next.second }

power_joined : (t : Tree) (n : ℕ) (s : Text) → Power (Matches t) n s → Joined t n s
power_joined t zero s h = subst (Joined t zero) (sym h) (no_text t)
power_joined t (suc n) s h = next_text t n h.front h.back s h.parts h.first (power_joined t n h.back h.second)

repeat_so : (t : Tree) (times : Times) → Tests (test_of t) (Matches t) → Tests (repeats times (test_of t)) (Matches (pattern.Repeat t times))
repeat_so t times h =
    changed (repeats times (test_of t)) (Counted (Matches t) times) (Matches (pattern.Repeat t times))
    (λ s x. repeat t times x.number s x.permitted (power_joined t x.number s x.texts))
    (λ s x. let y = of_repeat t times s x in record { number = y.0; permitted = y.1; texts = joined_power t y.0 s y.2 })
    (repeats_so (test_of t) (Matches t) times h)

-- ---- whole patterns

abbrev IsTested : Tree → Type 0
IsTested t = Tests (test_of t) (Matches t)

tested : (t : Tree) (test : Test) → test_of t ≡ test → Tests test (Matches t) → IsTested t
tested t test e h = subst (λ f. Tests f (Matches t)) (sym e) h

all_tested : (ys : List ((t : Tree) × IsTested t)) → AllTest (map (λ y. y.0) ys)
all_tested [] = tt
all_tested (y ∷ ys) = (y.1, all_tested ys)

abbrev Mapped : Tree-F ((t : Tree) × IsTested t) → Tree-F Tree
Mapped (Tree-F.Set set) = Tree-F.Set set
Mapped (Tree-F.Sequence ys) = Tree-F.Sequence (map (λ y. y.0) ys)
Mapped (Tree-F.Choice ys) = Tree-F.Choice (map (λ y. y.0) ys)
Mapped (Tree-F.Repeat y times) = Tree-F.Repeat y.0 times

mapped_tested : (y : Tree-F ((t : Tree) × IsTested t)) → IsTested (roll-Tree (Mapped y))
mapped_tested (Tree-F.Set set) = subst IsTested (sym (rolls-Set set)) (tested (pattern.Set set) (is_one_of set) (test_set set) (set_so set))
mapped_tested (Tree-F.Sequence ys) =
    let ts = map (λ y. y.0) ys in
    subst IsTested (sym (rolls-Sequence ts))
    (tested (pattern.Sequence ts) (in_turn (map test_of ts)) (test_sequence ts)
    (changed (in_turn (map test_of ts)) (InTurn ts) (Matches (pattern.Sequence ts)) (λ s x. sequence ts s x) (of_sequence ts) (in_turn_so ts (all_tested ys))))
mapped_tested (Tree-F.Choice ys) =
    let ts = map (λ y. y.0) ys in
    let all = all_tested ys in
    subst IsTested (sym (rolls-Choice ts))
    (tested (pattern.Choice ts) (of_sides ts) (test_choice ts)
    (record { sound = λ s e. choice ts s (side_is ts all s e); complete = λ s h. is_side ts all s (of_choice ts s h) }))
mapped_tested (Tree-F.Repeat y times) =
    subst IsTested (sym (rolls-Repeat y.0 times))
    (tested (pattern.Repeat y.0 times) (repeats times (test_of y.0)) (test_repeat y.0 times) (repeat_so y.0 times y.1))

level_tested : (x : Tree-F Tree) (y : Tree-F ((t : Tree) × IsTested t)) → Mapped y ≡ x → IsTested (roll-Tree x)
level_tested x y is = subst (λ z. IsTested (roll-Tree z)) is (mapped_tested y)

tree_tested : (t : Tree) → IsTested t
tree_tested = ind-Tree IsTested (λ x y is. level_tested x y is)

pub decides_matches : DecidesMatches
unfolding does_match
decides_matches tree text = (λ e. (tree_tested tree).sound text e, λ h. (tree_tested tree).complete text h)

-- the answer of a matcher is that of the test
pub matcher_is_test : (r : Result Bool Memory) (tree : Tree) (text : Text) → IfOk r (λ answer. IsTrue answer ↔ Matches tree text) → IfOk r (λ answer. answer ≡ does_match tree text)
matcher_is_test (Ok answer) tree text says = one_answer {P = Matches tree text} answer (does_match tree text) says (decides_matches tree text)
matcher_is_test (Err memory) tree text says = tt
