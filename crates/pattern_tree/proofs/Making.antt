-- The program of a pattern matches exactly what the pattern matches.
use Rattle.std.proofs.Common.{◌≡◌, ◌+◌, ℕ, zero, suc, Bool, true, false, List, [], ◌∷◌, ◌++◌, ◌⊎◌, inl, inr, length, map, fold, refl, sym, ap, ◌∙◌, subst, arith, append_assoc, length-append, add-zero, rules, slice_index_or}
use Rattle.std.proofs.lemmas.List.{append-nil}
use Rattle.pattern_tree.specs.Matching.{Text, Permits, Matches, one, sequence, choice, repeat, InTurn, no_part, next_part, OfASide, first_side, later_side, Joined, no_text, next_text}
use Rattle.pattern_tree.specs.Trees.{Level, fold_tree, is_of, sets_of, sets_at, one_after_another, hits_in}
use Rattle.pattern_tree.specs.Machine.{is_matched}
use Rattle.pattern_tree.specs.Programs.{single, nothing, beside, joined, chosen, all_gathered, gathered, no_sides, repeated, program, program_at, programs}
use Rattle.pattern_tree.specs.declared.program.Part.{Part}
use Rattle.pattern_tree.specs.declared.program.Sides.{Sides}
use Rattle.pattern_tree.specs.declared.tree.Set.{Set}
use Rattle.pattern_tree.specs.declared.tree.Times.{Times}
use Rattle.pattern_tree.specs.declared.tree.Tree.{Tree, the_lemmas}
use Rattle.pattern_tree.specs.declared.tree.Tree.TheVariants as pattern
use Rattle.pattern_tree.specs.declared.tree.Tree.TheVariants.{rolls-Set, rolls-Sequence, rolls-Choice, rolls-Repeat}
use Rattle.pattern_tree.specs.declared.tree.Tree.TheOpen.{Tree-F}
use Rattle.pattern_tree.specs.declared.tree.Tree.TheFolds.{ind-Tree}
use Rattle.pattern_tree.specs.declared.tree.Tree.TheViews.{out-Tree, roll-Tree}
use Rattle.pattern_tree.proofs.Expressions.{Hits, Hit, Split, Power}
use Rattle.pattern_tree.proofs.Joins.{split_left, split_right}
use Rattle.pattern_tree.proofs.Outcomes.{hit_by, matched}
use Rattle.pattern_tree.proofs.Spelling.{Spells, changed, single_so, nothing_so, beside_so}
use Rattle.pattern_tree.proofs.Repeating.{Counted, repeated_so}
use Rattle.pattern_tree.proofs.Siding.{Gathers, no_sides_so, gathered_so, alternated_so, gathers_changed}

-- ---- the equations of one level

out_set : (set : Set) → out-Tree (pattern.Set set) ≡ Tree-F.Set set
out_set set = search (rules, the_lemmas)

out_sequence : (parts : List Tree) → out-Tree (pattern.Sequence parts) ≡ Tree-F.Sequence parts
out_sequence parts = search (rules, the_lemmas)

out_choice : (sides : List Tree) → out-Tree (pattern.Choice sides) ≡ Tree-F.Choice sides
out_choice sides = search (rules, the_lemmas)

out_repeat : (part : Tree) (times : Times) → out-Tree (pattern.Repeat part times) ≡ Tree-F.Repeat part times
out_repeat part times = search (rules, the_lemmas)

fold_set : {A : Type 0} (step : Level A → A) (set : Set) → fold_tree step (pattern.Set set) ≡ step (Tree-F.Set set)
fold_set step set = search (rules, the_lemmas)

fold_sequence : {A : Type 0} (step : Level A → A) (parts : List Tree) → fold_tree step (pattern.Sequence parts) ≡ step (Tree-F.Sequence (map (fold_tree step) parts))
fold_sequence step parts = search (rules, the_lemmas)

fold_choice : {A : Type 0} (step : Level A → A) (sides : List Tree) → fold_tree step (pattern.Choice sides) ≡ step (Tree-F.Choice (map (fold_tree step) sides))
fold_choice step sides = search (rules, the_lemmas)

fold_repeat : {A : Type 0} (step : Level A → A) (part : Tree) (times : Times) → fold_tree step (pattern.Repeat part times) ≡ step (Tree-F.Repeat (fold_tree step part) times)
fold_repeat step part times = search (rules, the_lemmas)

-- ---- one level of matching, told by the pattern's form

abbrev By : Tree-F Tree → Text → Type 0
By (Tree-F.Set set) s = (c : ℕ) × (is_of set c ≡ true) × (s ≡ c ∷ [])
By (Tree-F.Sequence parts) s = InTurn parts s
By (Tree-F.Choice sides) s = OfASide sides s
By (Tree-F.Repeat part times) s = (n : ℕ) × Permits times n × Joined part n s

in_turn_nil : (s : Text) → InTurn [] s → s ≡ []
in_turn_nil s no_part = refl

in_turn_next : (t : Tree) (ts : List Tree) (s : Text) → InTurn (t ∷ ts) s → Split (Matches t) (InTurn ts) s
in_turn_next t ts s (next_part part parts first rest text e h k) =
    record { front = first; back = rest; parts = e; first = h; second = k }

of_a_side : (t : Tree) (ts : List Tree) (s : Text) → OfASide (t ∷ ts) s → Matches t s ⊎ OfASide ts s
of_a_side t ts s (first_side side sides text h) = inl h
of_a_side t ts s (later_side side sides text h) = inr h

of_no_side : (s : Text) → OfASide [] s → ⊥
of_no_side s h = elim h [ ]

joined_nil : (t : Tree) (s : Text) → Joined t zero s → s ≡ []
joined_nil t s (no_text part) = refl

joined_next : (t : Tree) (n : ℕ) (s : Text) → Joined t (suc n) s → Split (Matches t) (Joined t n) s
joined_next t n s (next_text part k first rest text e h j) =
    record { front = first; back = rest; parts = e; first = h; second = j }

-- what the derivation shows of the pattern's form
view : (t : Tree) (s : Text) → Matches t s → By (out-Tree t) s
view t s (one set c h) = subst (λ x. By x (c ∷ [])) (sym (out_set set)) (c, h, refl)
view t s (sequence parts text h) = subst (λ x. By x text) (sym (out_sequence parts)) h
view t s (choice sides text h) = subst (λ x. By x text) (sym (out_choice sides)) h
view t s (repeat part times n text p h) = subst (λ x. By x text) (sym (out_repeat part times)) (n, p, h)

of_set : (set : Set) (s : Text) → Matches (pattern.Set set) s → By (Tree-F.Set set) s
of_set set s h = subst (λ x. By x s) (out_set set) (view (pattern.Set set) s h)

of_sequence : (parts : List Tree) (s : Text) → Matches (pattern.Sequence parts) s → InTurn parts s
of_sequence parts s h = subst (λ x. By x s) (out_sequence parts) (view (pattern.Sequence parts) s h)

of_choice : (sides : List Tree) (s : Text) → Matches (pattern.Choice sides) s → OfASide sides s
of_choice sides s h = subst (λ x. By x s) (out_choice sides) (view (pattern.Choice sides) s h)

of_repeat : (part : Tree) (times : Times) (s : Text) → Matches (pattern.Repeat part times) s → By (Tree-F.Repeat part times) s
of_repeat part times s h = subst (λ x. By x s) (out_repeat part times) (view (pattern.Repeat part times) s h)

joined_power : (t : Tree) (k : ℕ) (s : Text) → Joined t k s → Power (Matches t) k s
joined_power t zero s h = joined_nil t s h
joined_power t (suc k) s h =
    let next = joined_next t k s h in
    record { front = next.front; back = next.back; parts = next.parts; first = next.first; second = joined_power t k next.back next.second }

power_joined : (t : Tree) (k : ℕ) (s : Text) → Power (Matches t) k s → Joined t k s
power_joined t zero s h = subst (Joined t zero) (sym h) (no_text t)
power_joined t (suc k) s h = next_text t k h.front h.back s h.parts h.first (power_joined t k h.back h.second)

-- ---- programs of lists of patterns

abbrev AllSpell : Hits → List Part → List Tree → Type 0
AllSpell hit [] [] = Unit {0}
AllSpell hit [] (t ∷ ts) = ⊥
AllSpell hit (p ∷ ps) [] = ⊥
AllSpell hit (p ∷ ps) (t ∷ ts) = Spells hit p (Matches t) × AllSpell hit ps ts

joined_from : (hit : Hits) (ps : List Part) (ts : List Tree) (acc : Part) (P : Text → Type 0) → Spells hit acc P → AllSpell hit ps ts → Spells hit (fold beside acc ps) (Split P (InTurn ts))
joined_from hit [] [] acc P h all =
    changed hit acc P (Split P (InTurn []))
    (λ s t. record { front = s; back = []; parts = sym (append-nil s); first = t; second = no_part })
    (λ s t. subst P (sym (t.parts ∙ ap (λ u. t.front ++ u) (in_turn_nil t.back t.second) ∙ append-nil t.front)) t.first)
    h
joined_from hit [] (t ∷ ts) acc P h all = absurd all
joined_from hit (p ∷ ps) [] acc P h all = absurd all
joined_from hit (p ∷ ps) (t ∷ ts) acc P h all =
    changed hit (fold beside (beside acc p) ps) (Split (Split P (Matches t)) (InTurn ts)) (Split P (InTurn (t ∷ ts)))
    (λ s x.
    let y = split_left P (Matches t) (InTurn ts) s x in
    record { front = y.front; back = y.back; parts = y.parts; first = y.first; second = next_part t ts y.second.front y.second.back y.back y.second.parts y.second.first y.second.second })
    (λ s x.
    split_right P (Matches t) (InTurn ts) s (record { front = x.front; back = x.back; parts = x.parts; first = x.first; second = in_turn_next t ts x.back x.second }))
    (joined_from hit ps ts (beside acc p) (Split P (Matches t)) (beside_so hit acc p P (Matches t) h all.0) all.1)

sequence_so : (hit : Hits) (ps : List Part) (ts : List Tree) → AllSpell hit ps ts → Spells hit (joined ps) (Matches (pattern.Sequence ts))
sequence_so hit ps ts all =
    changed hit (joined ps) (Split (λ s. s ≡ []) (InTurn ts)) (Matches (pattern.Sequence ts))
    (λ s t. sequence ts s (subst (InTurn ts) (sym (t.parts ∙ ap (λ u. u ++ t.back) t.first)) t.second))
    (λ s t. record { front = []; back = s; parts = refl; first = refl; second = of_sequence ts s t })
    (joined_from hit ps ts nothing (λ s. s ≡ []) (nothing_so hit) all)

gathered_from : (hit : Hits) (ps : List Part) (ts : List Tree) (sides : Sides) (P : Text → Type 0) → Gathers hit sides P → AllSpell hit ps ts
    → Gathers hit (fold gathered sides ps) (λ s. P s ⊎ OfASide ts s)
gathered_from hit [] [] sides P g all =
    gathers_changed hit sides P (λ s. P s ⊎ OfASide [] s) (λ s t. inl t) (λ s t. elim t [ inl a ↦ a | inr b ↦ absurd (of_no_side s b) ]) g
gathered_from hit [] (t ∷ ts) sides P g all = absurd all
gathered_from hit (p ∷ ps) [] sides P g all = absurd all
gathered_from hit (p ∷ ps) (t ∷ ts) sides P g all =
    gathers_changed hit (fold gathered (gathered sides p) ps) (λ s. (P s ⊎ Matches t s) ⊎ OfASide ts s) (λ s. P s ⊎ OfASide (t ∷ ts) s)
    (λ s x. elim x [
      | inl y ↦ elim y [ inl a ↦ inl a | inr b ↦ inr (first_side t ts s b) ]
      | inr z ↦ inr (later_side t ts s z)
    ])
    (λ s x. elim x [
      | inl a ↦ inl (inl a)
      | inr y ↦ elim (of_a_side t ts s y) [ inl b ↦ inl (inr b) | inr z ↦ inr z ]
    ])
    (gathered_from hit ps ts (gathered sides p) (λ s. P s ⊎ Matches t s) (gathered_so hit sides p P (Matches t) g all.0) all.1)

choice_so : (hit : Hits) (ps : List Part) (ts : List Tree) → AllSpell hit ps ts → Spells hit (chosen ps) (Matches (pattern.Choice ts))
choice_so hit ps ts all =
    changed hit (chosen ps) (λ s. ⊥ ⊎ OfASide ts s) (Matches (pattern.Choice ts))
    (λ s t. elim t [ inl a ↦ absurd a | inr b ↦ choice ts s b ])
    (λ s t. inr (of_choice ts s t))
    (alternated_so hit (all_gathered ps) (λ s. ⊥ ⊎ OfASide ts s) (gathered_from hit ps ts no_sides (λ s. ⊥) (no_sides_so hit) all))

repeat_so : (hit : Hits) (p : Part) (t : Tree) (times : Times) → Spells hit p (Matches t) → Spells hit (repeated p times) (Matches (pattern.Repeat t times))
repeat_so hit p t times h =
    changed hit (repeated p times) (Counted (Matches t) times.least times.most) (Matches (pattern.Repeat t times))
    (λ s x. repeat t times x.number s (record { enough = x.enough; few = x.few }) (power_joined t x.number s x.texts))
    (λ s x. let y = of_repeat t times s x in record { number = y.0; enough = y.1.enough; few = y.1.few; texts = joined_power t y.0 s y.2 })
    (repeated_so hit p (Matches t) times h)

-- ---- the place of a set

at_place : (f : Set → Bool) (pre post : List Set) (set : Set) (n : ℕ) → n ≡ length pre → slice_index_or (map f ((pre ++ set ∷ []) ++ post)) n false ≡ f set
at_place f [] post set zero e = refl
at_place f [] post set (suc n) e = absurd (omega arith)
at_place f (x ∷ pre) post set zero e = absurd (omega arith)
at_place f (x ∷ pre) post set (suc n) e = at_place f pre post set n (omega arith)

set_so : (pre post : List Set) (set : Set) (n : ℕ) → n ≡ length pre → Spells (hit_by (hits_in ((pre ++ set ∷ []) ++ post))) (single n) (Matches (pattern.Set set))
set_so pre post set n e =
    let hit = hit_by (hits_in ((pre ++ set ∷ []) ++ post)) in
    let same : (c : ℕ) → hit n c ≡ is_of set c = λ c. at_place (λ x. is_of x c) pre post set n e in
    changed hit (single n) (Hit hit n) (Matches (pattern.Set set))
    (λ s h. subst (Matches (pattern.Set set)) (sym h.only) (one set h.c (sym (same h.c) ∙ h.holds)))
    (λ s h. let y = of_set set s h in record { c = y.0; only = y.2; holds = same y.0 ∙ y.1 })
    (single_so hit n)

-- ---- whole patterns

pub record Made (t : Tree) (n : ℕ) (table : List Set) : Type 0 where
  pub spells : Spells (hit_by (hits_in table)) (program t n).0 (Matches t)
  pub next : (program t n).1 ≡ n + length (sets_of t)

abbrev pub IsMade : Tree → Type 0
IsMade t = (n : ℕ) (pre post : List Set) → n ≡ length pre → Made t n ((pre ++ sets_of t) ++ post)

made_of : (t : Tree) (n : ℕ) (pre post sets : List Set) (made : Part × ℕ) → sets_of t ≡ sets → program t n ≡ made
    → Spells (hit_by (hits_in ((pre ++ sets) ++ post))) made.0 (Matches t) → made.1 ≡ n + length sets → Made t n ((pre ++ sets_of t) ++ post)
made_of t n pre post sets made e f h g = record {
  spells =
      subst (λ x. Spells (hit_by (hits_in ((pre ++ x) ++ post))) (program t n).0 (Matches t)) (sym e) (
      subst (λ p. Spells (hit_by (hits_in ((pre ++ sets) ++ post))) p.0 (Matches t)) (sym f) h
      );
  next = ap (λ p. p.1) f ∙ g ∙ ap (λ x. n + length x) (sym e);
}

abbrev AllSets : List Tree → List Set
AllSets ts = one_after_another (map sets_of ts)

record AllMade (ts : List Tree) (n : ℕ) (table : List Set) : Type 0 where
  pub spells : AllSpell (hit_by (hits_in table)) (programs ts n).0 ts
  pub next : (programs ts n).1 ≡ n + length (AllSets ts)

all_made : (ys : List ((t : Tree) × IsMade t)) (n : ℕ) (pre post : List Set) → n ≡ length pre → AllMade (map (λ y. y.0) ys) n ((pre ++ AllSets (map (λ y. y.0) ys)) ++ post)
all_made [] n pre post e = record { spells = tt; next = sym (add-zero n) }
all_made (y ∷ ys) n pre post e =
    let sets = sets_of y.0 in
    let rest = AllSets (map (λ z. z.0) ys) in
    let first = y.1 n pre (rest ++ post) e in
    let n' = (program y.0 n).1 in
    let here : n' ≡ length (pre ++ sets) = first.next ∙ omega (arith, length-append pre sets) in
    let others = all_made ys n' (pre ++ sets) post here in
    let one_table : ((pre ++ sets) ++ (rest ++ post)) ≡ ((pre ++ (sets ++ rest)) ++ post) =
    sym (append_assoc (pre ++ sets) rest post) ∙ ap (λ l. l ++ post) (append_assoc pre sets rest) in
    let same_table : (((pre ++ sets) ++ rest) ++ post) ≡ ((pre ++ (sets ++ rest)) ++ post) = ap (λ l. l ++ post) (append_assoc pre sets rest) in
    record {
      spells = (
        subst (λ table. Spells (hit_by (hits_in table)) (program y.0 n).0 (Matches y.0)) one_table first.spells,
        subst (λ table. AllSpell (hit_by (hits_in table)) (programs (map (λ z. z.0) ys) n').0 (map (λ z. z.0) ys)) same_table others.spells,
      );
      next = others.next ∙ omega (arith, first.next, length-append sets rest);
    }

abbrev Mapped : Tree-F ((t : Tree) × IsMade t) → Tree-F Tree
Mapped (Tree-F.Set set) = Tree-F.Set set
Mapped (Tree-F.Sequence ys) = Tree-F.Sequence (map (λ y. y.0) ys)
Mapped (Tree-F.Choice ys) = Tree-F.Choice (map (λ y. y.0) ys)
Mapped (Tree-F.Repeat y times) = Tree-F.Repeat y.0 times

mapped_made : (y : Tree-F ((t : Tree) × IsMade t)) → IsMade (roll-Tree (Mapped y))
mapped_made (Tree-F.Set set) =
    subst IsMade (sym (rolls-Set set)) (λ n pre post e.
    made_of (pattern.Set set) n pre post (set ∷ []) (single n, n + 1) (fold_set sets_at set) (ap (λ f. f n) (fold_set program_at set)) (set_so pre post set n e) refl)
mapped_made (Tree-F.Sequence ys) =
    let ts = map (λ y. y.0) ys in
    subst IsMade (sym (rolls-Sequence ts)) (λ n pre post e.
    let all = all_made ys n pre post e in
    made_of (pattern.Sequence ts) n pre post (AllSets ts) (joined (programs ts n).0, (programs ts n).1) (fold_sequence sets_at ts) (ap (λ f. f n) (fold_sequence program_at ts))
    (sequence_so (hit_by (hits_in ((pre ++ AllSets ts) ++ post))) (programs ts n).0 ts all.spells)
    all.next)
mapped_made (Tree-F.Choice ys) =
    let ts = map (λ y. y.0) ys in
    subst IsMade (sym (rolls-Choice ts)) (λ n pre post e.
    let all = all_made ys n pre post e in
    made_of (pattern.Choice ts) n pre post (AllSets ts) (chosen (programs ts n).0, (programs ts n).1) (fold_choice sets_at ts) (ap (λ f. f n) (fold_choice program_at ts))
    (choice_so (hit_by (hits_in ((pre ++ AllSets ts) ++ post))) (programs ts n).0 ts all.spells)
    all.next)
mapped_made (Tree-F.Repeat y times) =
    subst IsMade (sym (rolls-Repeat y.0 times)) (λ n pre post e.
    let made = y.1 n pre post e in
    made_of (pattern.Repeat y.0 times) n pre post (sets_of y.0) (repeated (program y.0 n).0 times, (program y.0 n).1) (fold_repeat sets_at y.0 times) (ap (λ f. f n) (fold_repeat program_at y.0 times))
    (repeat_so (hit_by (hits_in ((pre ++ sets_of y.0) ++ post))) (program y.0 n).0 y.0 times made.spells)
    made.next)

made_level : (x : Tree-F Tree) (y : Tree-F ((t : Tree) × IsMade t)) → Mapped y ≡ x → IsMade (roll-Tree x)
made_level x y is = subst (λ z. IsMade (roll-Tree z)) is (mapped_made y)

pub tree_made : (t : Tree) → IsMade t
tree_made = ind-Tree IsMade (λ x y is. made_level x y is)

-- the program of a pattern matches exactly what the pattern matches
pub tree_law : (tree : Tree) (s : Text) → (is_matched (sets_of tree) (program tree 0).0 s ≡ true → Matches tree s) × (Matches tree s → is_matched (sets_of tree) (program tree 0).0 s ≡ true)
tree_law tree s =
    let made = tree_made tree 0 [] [] refl in
    let h = subst (λ table. Spells (hit_by (hits_in table)) (program tree 0).0 (Matches tree)) (append-nil (sets_of tree)) made.spells in
    let law = matched (hits_in (sets_of tree)) (program tree 0).0 h.expr h.is s in
    (λ e. h.sound s (law.sound e), λ x. law.complete (h.complete s x))
