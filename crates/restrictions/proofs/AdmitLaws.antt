-- What a condition admits: names and texts, words, and conditions with fewer or further parts.
use Rattle.std.proofs.Common.{◌≡◌, ℕ, zero, suc, length, ◌==◌, ◌<◌, Bool, true, false, ◌&&◌, ◌||◌, List, [], ◌∷◌, ◌++◌, inl, inr, ◌↔◌, refl, sym, ap, ◌∙◌, rules, arith, if◌then◌else◌}
use Rattle.std.specs.Prelude.{IsTrue, Option, Some, None, codes, slice_index}
use Rattle.std.specs.Bool.{one_answer}
use Rattle.std.specs.Char.{is_ascii}
use Rattle.std.specs.List.{list_all, list_any}
use Rattle.std.specs.Option.{option_map_or}
use Rattle.std.specs.Str.{chars, bytes_eq}
use Rattle.std.proofs.Math.Bool.{or-false}
use Rattle.std.proofs.lemmas.Bool.{ltb-true}
use Rattle.std.proofs.lemmas.Bool.Decides.{eqb_tells}
use Rattle.std.proofs.lemmas.List.Folds.{list_any-append}
use Rattle.std.proofs.lemmas.Slice.Eq.{bytes_eq-Decides}
use Rattle.std.proofs.lemmas.Str.{chars-IsAscii}
use Rattle.ifc_base.specs.declared.value.ValueNode.{the_lemmas}
use Rattle.ifc_base.specs.Tree.{text_value}
use Rattle.pattern_tree.specs.Matching.{Text}
use Rattle.restrictions.specs.declared.condition.Condition.{Condition}
use Rattle.restrictions.specs.declared.condition.Condition.TheVariants.{Simple, Restricted}
use Rattle.restrictions.specs.declared.condition.Constraints.{Constraints}
use Rattle.restrictions.specs.declared.number.Number.{Number}
use Rattle.restrictions.specs.Admitting.{admits, admits_text, admits_compared, compared, Compared, as_number, as_text, asked, equals, enumeration_text, keeps_bounds, keeps_lengths, keeps_enumeration, keeps_patterns, some_if_any, is_text_where, from, up_to, above, below, has_length, has_at_least, has_at_most}
use Rattle.restrictions.specs.Laws.{NamesAreTexts, NoLess, SimpleIsOne, EnumerationsWiden, PatternsWiden, BoundsNarrow, HasFurther, IsPartOf, enumerated}
use Rattle.restrictions.specs.Matching.{does_match}
use Rattle.restrictions.proofs.Tests.{and_parts, and_made, or_first, or_second}

-- ---- words

ascii_at : (word : Text) → list_all is_ascii word ≡ true → (i : ℕ) → slice_index word i < 128
ascii_at [] e i = omega arith
ascii_at (c ∷ word) e zero = ltb-true c 128 (and_parts (is_ascii c) (list_all is_ascii word) e).0
ascii_at (c ∷ word) e (suc i) = ascii_at word (and_parts (is_ascii c) (list_all is_ascii word) e).1 i

-- the characters of a word of ASCII are its bytes
pub word_chars : (word : Text) → IsTrue (list_all is_ascii word) → chars word ≡ word
word_chars word e = chars-IsAscii word (ascii_at word e)

-- the answer whether a name has the characters of a word
pub is_word : (answer : Bool) (name word : Text) → IsTrue (list_all is_ascii word) → (IsTrue answer ↔ (name ≡ chars word)) → answer ≡ bytes_eq name word
is_word answer name word ascii says =
    one_answer {P = name ≡ chars word} answer (bytes_eq name (chars word)) says (bytes_eq-Decides name (chars word))
    ∙ ap (λ (w : Text). bytes_eq name w) (word_chars word ascii)

abbrev text_by : Bool → Bool → Bool → Text → Text
text_by t f u name = if t then codes "true" else (if f then codes "false" else (if u then codes "unknown" else name))

pub text_is : (name : Text) (t f u : Bool) → t ≡ bytes_eq name (codes "T") → f ≡ bytes_eq name (codes "F") → u ≡ bytes_eq name (codes "U") → text_by t f u name ≡ enumeration_text name
text_is name t f u e g h = λ i. text_by (e i) (g i) (h i) name

-- ---- names

pub names_are_texts : NamesAreTexts
unfolding admits admits_text
names_are_texts condition name = ap (λ o. option_map_or (admits_compared condition) o false) (compared_string name)
  where
    compared_string : (name : Text) → compared (text_value name) ≡ Some (as_text name)
    compared_string name = search (rules, the_lemmas)

-- ---- conditions with fewer or further parts

none_of : {A : Type 0} (xs : List A) → list_any (λ x. false) xs ≡ false
none_of [] = refl
none_of (x ∷ xs) = none_of xs

-- numbers are admitted by patterns only where there are none
pub without_patterns : (p : Constraints) (answer : Bool) (number : Number) → answer ≡ (length p.patterns == 0) → answer ≡ keeps_patterns p (as_number number)
without_patterns p answer number e = e ∙ sym (ap (λ b. (length p.patterns == 0) || b) (none_of p.patterns) ∙ or-false (length p.patterns == 0))

abbrev compares : Condition → Option Compared → Bool
compares condition o = option_map_or (admits_compared condition) o false

-- what admits less of everything that is compared admits less of values
no_less : (one other : Condition) → ((c : Compared) → admits_compared one c ≡ true → admits_compared other c ≡ true) → NoLess one other
unfolding admits
no_less one other h value e = by (compared value) e
  where
    by : (o : Option Compared) → compares one o ≡ true → compares other o ≡ true
    by None e = e
    by (Some c) e = h c e

nonempty : {A : Type 0} (xs : List A) (x : A) (others : List A) → xs ≡ x ∷ others → (length xs == 0) ≡ false
nonempty xs x others e = ap (λ ys. length ys == 0) e ∙ not_none (length others)
  where
    not_none : (n : ℕ) → (suc n == 0) ≡ false
    not_none n = elim (eqb_tells (suc n) 0) [ inl h ↦ absurd (omega (arith, h.1)) | inr h ↦ h.0 ]

pub some_widens : {A : Type 0} (test : A → Bool) (xs : List A) (first further : A) (others : List A) → xs ≡ first ∷ others
    → some_if_any xs test ≡ true → some_if_any (xs ++ further ∷ []) test ≡ true
some_widens test xs first further others e h =
    let any : list_any test xs ≡ true = ap (λ b. b || list_any test xs) (sym (nonempty xs first others e)) ∙ h in
    or_second (length (xs ++ further ∷ []) == 0) (list_any test (xs ++ further ∷ []))
    (list_any-append test xs (further ∷ []) ∙ or_first (list_any test xs) (list_any test (further ∷ [])) any)

-- of four tests together the third or the fourth may be replaced by one that passes no less
third : (a b c d e : Bool) → (c ≡ true → e ≡ true) → (a && (b && (c && d))) ≡ true → (a && (b && (e && d))) ≡ true
third true true true d e f h = and_made e d (f refl) h
third true true false d e f h = absurd (cc)
third true false c d e f h = absurd (cc)
third false b c d e f h = absurd (cc)

fourth : (a b c d e : Bool) → (d ≡ true → e ≡ true) → (a && (b && (c && d))) ≡ true → (a && (b && (c && e))) ≡ true
fourth true true true d e f h = f h
fourth true true false d e f h = absurd (cc)
fourth true false c d e f h = absurd (cc)
fourth false b c d e f h = absurd (cc)

pub enumerations_widen : EnumerationsWiden
enumerations_widen p first further others e =
    no_less (Restricted p) (Restricted (record p { enumeration = p.enumeration ++ further ∷ [] })) (λ c.
    third (keeps_bounds p.bounds c) (keeps_lengths p.lengths c) (keeps_enumeration p c) (keeps_patterns p c)
    (some_if_any (p.enumeration ++ further ∷ []) (λ literal. equals literal c))
    (some_widens (λ literal. equals literal c) p.enumeration first further others e))

pub patterns_widen : PatternsWiden
patterns_widen p first further others e =
    no_less (Restricted p) (Restricted (record p { patterns = p.patterns ++ further ∷ [] })) (λ c.
    fourth (keeps_bounds p.bounds c) (keeps_lengths p.lengths c) (keeps_enumeration p c) (keeps_patterns p c)
    (some_if_any (p.patterns ++ further ∷ []) (λ tree. is_text_where (does_match tree) c))
    (some_widens (λ tree. is_text_where (does_match tree) c) p.patterns first further others e))

-- a part that is left out is met
asked_less : {A : Type 0} (test : A → Bool) (less more : Option A) → IsPartOf less more → asked more test ≡ true → asked less test ≡ true
asked_less test less more (inl none) h = ap (λ o. asked o test) none
asked_less test less more (inr same) h = ap (λ o. asked o test) same ∙ h

pair_less : (a b x y : Bool) → (a ≡ true → x ≡ true) → (b ≡ true → y ≡ true) → (a && b) ≡ true → (x && y) ≡ true
pair_less a b x y f g h = let both = and_parts a b h in and_made x y (f both.0) (g both.1)

abbrev Less : Bool → Bool → Type 0
Less more less = more ≡ true → less ≡ true

bounds_less : (more less : Constraints) (c : Compared) → HasFurther more less → Less (keeps_bounds more.bounds c) (keeps_bounds less.bounds c)
bounds_less more less c h =
    let m = more.bounds in
    let l = less.bounds in
    pair_less _ _ _ _ (asked_less (λ b. from b c) l.min_inclusive m.min_inclusive h.min_inclusive)
    (pair_less _ _ _ _ (asked_less (λ b. up_to b c) l.max_inclusive m.max_inclusive h.max_inclusive)
    (pair_less _ _ _ _ (asked_less (λ b. above b c) l.min_exclusive m.min_exclusive h.min_exclusive)
    (asked_less (λ b. below b c) l.max_exclusive m.max_exclusive h.max_exclusive)))

lengths_less : (more less : Constraints) (c : Compared) → HasFurther more less → Less (keeps_lengths more.lengths c) (keeps_lengths less.lengths c)
lengths_less more less c h =
    let m = more.lengths in
    let l = less.lengths in
    pair_less _ _ _ _ (asked_less (λ n. has_length n c) l.length m.length h.length)
    (pair_less _ _ _ _ (asked_less (λ n. has_at_least n c) l.min_length m.min_length h.min_length)
    (asked_less (λ n. has_at_most n c) l.max_length m.max_length h.max_length))

pub bounds_narrow : BoundsNarrow
bounds_narrow more less h =
    no_less (Restricted more) (Restricted less) (λ c.
    pair_less _ _ _ _ (bounds_less more less c h)
    (pair_less _ _ _ _ (lengths_less more less c h)
    (pair_less _ _ _ _ (λ e. ap (λ xs. some_if_any xs (λ literal. equals literal c)) h.enumeration ∙ e)
    (λ e. ap (λ xs. some_if_any xs (λ tree. is_text_where (does_match tree) c)) h.patterns ∙ e))))

-- ---- one text

one_of_one : (b : Bool) → b ≡ (true && (true && ((b || false) && true)))
one_of_one true = refl
one_of_one false = refl

pub simple_is_one : SimpleIsOne
unfolding admits
simple_is_one literal value = by (compared value)
  where
    by : (o : Option Compared) → compares (Simple literal) o ≡ compares (Restricted (enumerated (literal ∷ []))) o
    by None = refl
    by (Some c) = one_of_one (equals literal c)
