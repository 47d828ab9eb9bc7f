-- Reading the parts of a restriction: lengths by their bytes, and patterns one after another.
use Rattle.std.proofs.Common.{◌≡◌, ℕ, zero, suc, ◌+◌, ◌-◌, ◌*◌, ◌<◌, ◌≤◌, Bool, true, false, not, ◌&&◌, List, [], ◌∷◌, ◌++◌, map, length, fold, refl, sym, ap, ◌∙◌, subst, rules, arith, if◌then◌else◌}
use Rattle.std.specs.Prelude.{IsTrue, Option, Some, None, Result, Ok, Err, nat_le, encode_utf8_all, slice_index}
use Rattle.std.specs.Bool.{one_answer}
use Rattle.std.specs.Char.{is_ascii_digit}
use Rattle.std.specs.List.{list_all}
use Rattle.std.specs.Option.{option_map_or}
use Rattle.std.specs.Str.{chars}
use Rattle.std.specs.Str.Parse.{ParsesUnsigned}
use Rattle.std.proofs.lemmas.Bool.{leb-true}
use Rattle.std.proofs.lemmas.Bool.Decides.{nat_tests}
use Rattle.std.proofs.lemmas.Str.{chars-IsAscii, encodes-IsAscii}
use Rattle.std.proofs.lemmas.Str.Parse.{IsDigitsTest, IsNumeralModel, numerals_by_fold, digits_value_short, parse_gives}
use Rattle.ifc_base.specs.Refusals.{IfFault}
use Rattle.ifc_base.specs.declared.memory.Refusal.{Refusal}
use Rattle.ifc_base.specs.declared.memory.Refusal.TheVariants as refusal
use Rattle.decimal_fix.specs.Numerals.{digits}
use Rattle.decimal_fix.specs.Rounding.{step}
use Rattle.pattern_tree.specs.Matching.{Text}
use Rattle.restrictions.specs.declared.parts.RestrictionParts.{RestrictionParts}
use Rattle.restrictions.specs.declared.parts.RestrictionFault.{RestrictionFault}
use Rattle.xsd_pattern.specs.declared.fault.PatternFault.{PatternFault}
use Rattle.xsd_pattern.specs.Reading.{reading}
use Rattle.pattern_tree.specs.declared.tree.Tree.{Tree}
use Rattle.restrictions.specs.Laws.{PatternsAreRead}
use Rattle.restrictions.specs.Building.{fault_or, tree_of, trees, is_length, length_of, or_later, parts_fault, pattern_fault, shape_fault}
use Rattle.restrictions.proofs.Tests.{and_parts}

-- ---- lengths

digit_bound : (c : ℕ) → is_ascii_digit c ≡ true → c < 128
digit_bound c e = grind (arith, nat_tests)

digits_at : (bytes : Text) → list_all is_ascii_digit bytes ≡ true → (i : ℕ) → slice_index bytes i < 128
digits_at [] e i = omega arith
digits_at (c ∷ bytes) e zero = digit_bound c (and_parts (is_ascii_digit c) (list_all is_ascii_digit bytes) e).0
digits_at (c ∷ bytes) e (suc i) = digits_at bytes (and_parts (is_ascii_digit c) (list_all is_ascii_digit bytes) e).1 i

record OfDigits (bytes : Text) : Type 0 where
  pub some : 1 ≤ length bytes
  pub few : length bytes ≤ 9
  pub all : list_all is_ascii_digit bytes ≡ true

of_digits : (bytes : Text) → is_length bytes ≡ true → OfDigits bytes
unfolding is_length
of_digits bytes e =
    let first = and_parts (nat_le 1 (length bytes)) (nat_le (length bytes) 9 && list_all is_ascii_digit bytes) e in
    let rest = and_parts (nat_le (length bytes) 9) (list_all is_ascii_digit bytes) first.1 in
    record { some = leb-true 1 (length bytes) first.0; few = leb-true (length bytes) 9 rest.0; all = rest.1 }

-- the bytes of a text that is a length are its characters
pub bytes_are : (bytes text : Text) → bytes ≡ encode_utf8_all text → is_length text ≡ true → bytes ≡ text
bytes_are bytes text e h = e ∙ encodes-IsAscii text (digits_at text (of_digits text h).all)

chars_are : (bytes text : Text) → chars bytes ≡ text → is_length bytes ≡ true → bytes ≡ text
chars_are bytes text e h = sym (chars-IsAscii bytes (digits_at bytes (of_digits bytes h).all)) ∙ e

pub length_by_bytes : (bytes text : Text) → bytes ≡ encode_utf8_all text → chars bytes ≡ text → is_length bytes ≡ is_length text
length_by_bytes bytes text e f =
    one_answer {P = is_length text ≡ true} (is_length bytes) (is_length text)
    (λ h. sym (ap is_length (chars_are bytes text f h)) ∙ h, λ h. ap is_length (bytes_are bytes text e h) ∙ h)
    (λ h. h, λ h. h)

-- ---- the number of a length

abbrev AreDigits : Text → Type 0
AreDigits text = list_all is_ascii_digit text ≡ true

-- the number behind one so far
abbrev reads_on : ℕ → Text → ℕ
reads_on n text = fold step n (digits text)

more_digits : (n c : ℕ) (text : Text) → reads_on n (c ∷ text) ≡ reads_on (n * 10 + (c - 48)) text
more_digits n c text = let e : 10 * n + (c - 48) ≡ n * 10 + (c - 48) = omega arith in ap (λ m. fold step m (digits text)) e

tells : IsDigitsTest AreDigits
tells = search rules

own : IsNumeralModel AreDigits (reads_on 0)
own = numerals_by_fold AreDigits tells reads_on (record { empty = λ n. refl; more = λ n c cs within. more_digits n c cs })

pub length_read : {E : Type 0} (bytes text : Text) (r : Result ℕ E) → bytes ≡ encode_utf8_all text → IsTrue (is_length text) → ParsesUnsigned 32 10 bytes r → r ≡ Ok (length_of text)
unfolding length_of
length_read bytes text r e h parses =
    let d = of_digits text h in
    let same : bytes ≡ text = bytes_are bytes text e h in
    let own_parses : ParsesUnsigned 32 10 text r = subst (λ b. ParsesUnsigned 32 10 b r) same parses in
    let small = digits_value_short own text 9 d.all d.few in
    parse_gives own 32 text r own_parses d.all (omega (arith, d.some)) (omega (arith, small))

-- ---- a fault, or a value where there is none

pub fault_is : {F X : Type 0} (o : Option F) (x : X) (fault : F) → Err fault ≡ option_map_or Err o (Ok x) → o ≡ Some fault
fault_is None x fault e = absurd (cc)
fault_is (Some other) x fault e = cc

pub value_is : {F X : Type 0} (o : Option F) (x y : X) → Ok y ≡ option_map_or Err o (Ok x) → (o ≡ None) × (y ≡ x)
value_is None x y e = (refl, cc)
value_is (Some other) x y e = absurd (cc)

err_is : {F X : Type 0} (a : Bool) (f g : F) (x : X) → Err g ≡ (if a then Err f else Ok x) → (a ≡ true) × (g ≡ f)
err_is true f g x e = (refl, cc)
err_is false f g x e = absurd (cc)

ok_is : {F X : Type 0} (a : Bool) (f : F) (x y : X) → Ok y ≡ (if a then Err f else Ok x) → (a ≡ false) × (y ≡ x)
ok_is true f x y e = absurd (cc)
ok_is false f x y e = (refl, cc)

-- two answers one after the other
abbrev both : {F X Y : Type 0} → Bool → Bool → F → F → X → Y → Result (X × Y) F
both a b f g x y = if a then Err f else if b then Err g else Ok (x, y)

pub first_err : {F X Y : Type 0} (a b : Bool) (f g fault : F) (x : X) (y : Y) → Err fault ≡ (if a then Err f else Ok x) → Err fault ≡ both a b f g x y
first_err true b f g fault x y e = ap (λ h. Err h) (err_is true f fault x e).1
first_err false b f g fault x y e = absurd (cc)

pub second_err : {F X Y : Type 0} (a b : Bool) (f g fault : F) (x p : X) (y : Y) → Ok p ≡ (if a then Err f else Ok x) → Err fault ≡ (if b then Err g else Ok y)
    → Err fault ≡ both a b f g x y
second_err true b f g fault x p y e h = absurd (cc)
second_err false true f g fault x p y e h = ap (λ k. Err k) (err_is true g fault y h).1
second_err false false f g fault x p y e h = absurd (cc)

pub both_ok : {F X Y : Type 0} (a b : Bool) (f g : F) (x p : X) (y q : Y) → Ok p ≡ (if a then Err f else Ok x) → Ok q ≡ (if b then Err g else Ok y)
    → Ok (p, q) ≡ both a b f g x y
both_ok true b f g x p y q e h = absurd (cc)
both_ok false true f g x p y q e h = absurd (cc)
both_ok false false f g x p y q e h = let first : p ≡ x = cc in let second : q ≡ y = cc in cc

-- of four faults the first two are not there
pub later_faults : {F X : Type 0} (base none a b : Bool) (f g h k : F) (x : X) → base ≡ true → none ≡ false
    → (if a then Err h else if b then Err k else Ok x)
    ≡ option_map_or Err (if not base then Some f else if none then Some g else if a then Some h else if b then Some k else None) (Ok x)
later_faults true false true b f g h k x e n = refl
later_faults true false false true f g h k x e n = refl
later_faults true false false false f g h k x e n = refl
later_faults true true a b f g h k x e n = absurd (cc)
later_faults false none a b f g h k x e n = absurd (cc)

-- ---- all parts

pub later : (p : RestrictionParts) (o : Option RestrictionFault) → shape_fault p ≡ None → pattern_fault 1 p.pattern ≡ o → parts_fault p ≡ o
unfolding parts_fault
later p o none e = ap (λ s. or_later s (pattern_fault 1 p.pattern)) none ∙ e

pub earlier : (p : RestrictionParts) (fault : RestrictionFault) → shape_fault p ≡ Some fault → parts_fault p ≡ Some fault
unfolding parts_fault
earlier p fault e = ap (λ s. or_later s (pattern_fault 1 p.pattern)) e

pub later_refusal : (p : RestrictionParts) (r : Refusal RestrictionFault) → shape_fault p ≡ None
    → IfFault r (λ fault. pattern_fault 1 p.pattern ≡ Some fault) → IfFault r (λ fault. parts_fault p ≡ Some fault)
later_refusal p (refusal.Fault fault) none e = later p (Some fault) none e
later_refusal p refusal.Memory none e = tt

-- ---- patterns

one_more : (which : ℕ) (r : Result Tree PatternFault) (read : List (Result Tree PatternFault)) (more : List Tree) (later : Option RestrictionFault)
    → fault_or which r later ≡ None → read ≡ map (λ tree. Ok tree) more → (r ∷ read) ≡ map (λ tree. Ok tree) (tree_of r ++ more)
one_more which (Ok tree) read more later e h = ap (λ rs. Ok tree ∷ rs) h
one_more which (Err fault) read more later e h = absurd (cc)

none_later : (which : ℕ) (r : Result Tree PatternFault) (later : Option RestrictionFault) → fault_or which r later ≡ None → later ≡ None
none_later which (Ok tree) later e = e
none_later which (Err fault) later e = absurd (cc)

pub patterns_are_read : PatternsAreRead
patterns_are_read which [] e = refl
patterns_are_read which (text ∷ texts) e =
    let later = pattern_fault (which + 1) texts in
    one_more which (reading text) (map reading texts) (trees texts) later e
    (patterns_are_read (which + 1) texts (none_later which (reading text) later e))
