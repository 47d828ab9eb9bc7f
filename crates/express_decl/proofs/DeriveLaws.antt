-- The names that a section DERIVE redeclares: token by token, and line by line.
use Rattle.std.proofs.Common.{◌≡◌, ℕ, Bool, true, false, ◌&&◌, cond, List, [], ◌∷◌, ◌++◌, refl, sym, ap, ◌∙◌, subst, inl, inr, append_assoc}
use Rattle.std.specs.Prelude.{codes}
use Rattle.reading.proofs.Tools.{tested}
use Rattle.express_decl.specs.declared.section.Line.{Line}
use Rattle.express_decl.specs.declared.section.Line.TheVariants as line
use Rattle.express_decl.specs.Tokens.{Token, Word, Quoted, Sign, says, is_sign}
use Rattle.express_decl.specs.Entities.{line_step, line_after, names_from}
use Rattle.express_decl.specs.Grammar.{cut, redeclares, redeclared_names, derived_names}
use Rattle.express_decl.proofs.StepLaws.{sign_is}

abbrev Texts : Type 0
Texts = List (List ℕ)

-- token by token, over lines
pub names_after : Line → List Token → Texts
names_after l [] = []
names_after l (x ∷ xs) = names_from l x ++ names_after (line_after l x) xs

-- token by token, within one line
within_line : Line → List Token → Texts
within_line l [] = []
within_line l (x ∷ xs) = names_from l x ++ within_line (line_step l x) xs

-- ---- one line

rest_none : (xs : List Token) → within_line line.Rest xs ≡ []
unfolding within_line
rest_none [] = refl
rest_none (x ∷ xs) = rest_none xs

abbrev first_word : List Token → Texts
first_word (Word a ∷ others) = a ∷ []
first_word others = []

abbrev dot_word : List Token → Texts
dot_word (d ∷ xs) = cond (is_sign 46 d) (first_word xs) []
dot_word [] = []

abbrev word_dot : List Token → Texts
word_dot (Word e ∷ xs) = dot_word xs
word_dot others = []

abbrev backslash_word : List Token → Texts
backslash_word (b ∷ xs) = cond (is_sign 92 b) (word_dot xs) []
backslash_word [] = []

at_dot : (xs : List Token) → within_line line.AfterDot xs ≡ first_word xs
unfolding within_line
at_dot [] = refl
at_dot (Word a ∷ xs) = ap (λ (ns : Texts). a ∷ ns) (rest_none xs)
at_dot (Quoted ∷ xs) = rest_none xs
at_dot (Sign c ∷ xs) = rest_none xs

at_entity : (xs : List Token) → within_line line.AfterEntity xs ≡ dot_word xs
unfolding within_line
at_entity [] = refl
at_entity (d ∷ xs) =
    elim (tested (is_sign 46 d)) [
      | inl h ↦ rw h (at_dot xs)
      | inr h ↦ rw h (rest_none xs)
    ]

at_backslash : (xs : List Token) → within_line line.AfterBackslash xs ≡ word_dot xs
unfolding within_line
at_backslash [] = refl
at_backslash (Word e ∷ xs) = at_entity xs
at_backslash (Quoted ∷ xs) = rest_none xs
at_backslash (Sign c ∷ xs) = rest_none xs

at_self : (xs : List Token) → within_line line.AfterSelf xs ≡ backslash_word xs
unfolding within_line
at_self [] = refl
at_self (b ∷ xs) =
    elim (tested (is_sign 92 b)) [
      | inl h ↦ rw h (at_backslash xs)
      | inr h ↦ rw h (rest_none xs)
    ]

cond_same : (b : Bool) (ns : Texts) → cond b ns ns ≡ ns
cond_same true ns = refl
cond_same false ns = refl

cond_all : (a b c : Bool) (ns : Texts) → cond a (cond b (cond c ns []) []) [] ≡ cond (a && (b && c)) ns []
cond_all true true c ns = refl
cond_all true false c ns = refl
cond_all false b c ns = refl

abbrev no_names : Texts
no_names = []

none_here : (a b : Bool) → cond a (cond b no_names no_names) no_names ≡ no_names
none_here true true = refl
none_here true false = refl
none_here false b = refl

none_there : (a b c : Bool) → cond a (cond b (cond c no_names no_names) no_names) no_names ≡ no_names
none_there true true true = refl
none_there true true false = refl
none_there true false c = refl
none_there false b c = refl

self_word : (s : Token) (xs : List Token) → cond (says (codes "SELF") s) (backslash_word xs) [] ≡ redeclares (s ∷ xs)
unfolding redeclares
self_word s [] = cond_same (says (codes "SELF") s) []
self_word s (b ∷ []) = none_here (says (codes "SELF") s) (is_sign 92 b)
self_word s (b ∷ Quoted ∷ xs) = none_here (says (codes "SELF") s) (is_sign 92 b)
self_word s (b ∷ Sign c ∷ xs) = none_here (says (codes "SELF") s) (is_sign 92 b)
self_word s (b ∷ Word e ∷ []) = none_here (says (codes "SELF") s) (is_sign 92 b)
self_word s (b ∷ Word e ∷ d ∷ []) = none_there (says (codes "SELF") s) (is_sign 92 b) (is_sign 46 d)
self_word s (b ∷ Word e ∷ d ∷ Quoted ∷ xs) = none_there (says (codes "SELF") s) (is_sign 92 b) (is_sign 46 d)
self_word s (b ∷ Word e ∷ d ∷ Sign c ∷ xs) = none_there (says (codes "SELF") s) (is_sign 92 b) (is_sign 46 d)
self_word s (b ∷ Word e ∷ d ∷ Word a ∷ xs) = cond_all (says (codes "SELF") s) (is_sign 92 b) (is_sign 46 d) (a ∷ [])

empty_line : redeclares [] ≡ []
unfolding redeclares
empty_line = refl

one_line : (xs : List Token) → within_line line.Start xs ≡ redeclares xs
unfolding within_line
one_line [] = sym empty_line
one_line (s ∷ xs) =
    elim (tested (says (codes "SELF") s)) [
      | inl h ↦ let e = self_word s xs in let f = rw h at e in rw h (at_self xs ∙ f)
      | inr h ↦ let e = self_word s xs in let f = rw h at e in rw h (rest_none xs ∙ f)
    ]

-- ---- lines

from_semicolon : (l : Line) → names_from l (Sign 59) ≡ []
from_semicolon line.Start = refl
from_semicolon line.AfterSelf = refl
from_semicolon line.AfterBackslash = refl
from_semicolon line.AfterEntity = refl
from_semicolon line.AfterDot = refl
from_semicolon line.Rest = refl

semicolon_none : (l : Line) (x : Token) → is_sign 59 x ≡ true → names_from l x ≡ []
semicolon_none l x is = ap (names_from l) (sign_is 59 x is) ∙ from_semicolon l

line_ends : (l : Line) (x : Token) → is_sign 59 x ≡ true → line_after l x ≡ line.Start
unfolding line_after
line_ends l x is = rw is refl

line_goes_on : (l : Line) (x : Token) → is_sign 59 x ≡ false → line_after l x ≡ line_step l x
unfolding line_after
line_goes_on l x isnt = rw isnt refl

cut_ends : (x : Token) (xs : List Token) → is_sign 59 x ≡ true → cut (x ∷ xs) ≡ ([], (cut xs).0 ∷ (cut xs).1)
unfolding cut
cut_ends x xs is = rw is refl

cut_goes_on : (x : Token) (xs : List Token) → is_sign 59 x ≡ false → cut (x ∷ xs) ≡ (x ∷ (cut xs).0, (cut xs).1)
unfolding cut
cut_goes_on x xs isnt = rw isnt refl

empty_cut : cut [] ≡ ([], [])
unfolding cut
empty_cut = refl

abbrev Lines : Type 0
Lines = List Token × List (List Token)

-- what the tokens give where they are cut into these lines
abbrev Given : Line → List Token → Lines → Type 0
Given l xs lines = names_after l xs ≡ within_line l lines.0 ++ redeclared_names lines.1

after_is : (l : Line) (xs : List Token) → Given l xs (cut xs)
unfolding names_after within_line redeclared_names
after_is l [] = subst (Given l []) (sym empty_cut) refl
after_is l (x ∷ xs) =
    elim (tested (is_sign 59 x)) [
      | inl h ↦
          let rest : names_after line.Start xs ≡ redeclares (cut xs).0 ++ redeclared_names (cut xs).1 = after_is line.Start xs ∙ ap (λ (ns : Texts). ns ++ redeclared_names (cut xs).1) (one_line (cut xs).0) in
          let first : names_from l x ++ names_after (line_after l x) xs ≡ names_from l x ++ names_after line.Start xs = ap (λ (m : Line). names_from l x ++ names_after m xs) (line_ends l x h) in
          let whole : Given l (x ∷ xs) ([], (cut xs).0 ∷ (cut xs).1) = first ∙ (ap (λ (ns : Texts). ns ++ names_after line.Start xs) (semicolon_none l x h) ∙ rest) in
          subst (Given l (x ∷ xs)) (sym (cut_ends x xs h)) whole
      | inr h ↦
          let rest : names_after (line_step l x) xs ≡ within_line (line_step l x) (cut xs).0 ++ redeclared_names (cut xs).1 = after_is (line_step l x) xs in
          let first : names_from l x ++ names_after (line_after l x) xs ≡ names_from l x ++ names_after (line_step l x) xs = ap (λ (m : Line). names_from l x ++ names_after m xs) (line_goes_on l x h) in
          let whole : Given l (x ∷ xs) (x ∷ (cut xs).0, (cut xs).1) =
          first ∙ (ap (λ (ns : Texts). names_from l x ++ ns) rest ∙ sym (append_assoc (names_from l x) (within_line (line_step l x) (cut xs).0) (redeclared_names (cut xs).1))) in
          subst (Given l (x ∷ xs)) (sym (cut_goes_on x xs h)) whole
    ]

-- token by token the names are those of the lines
pub derived_is : (text : List Token) → names_after line.Start text ≡ derived_names text
unfolding redeclared_names
derived_is text = after_is line.Start text ∙ ap (λ (ns : Texts). ns ++ redeclared_names (cut text).1) (one_line (cut text).0)

-- for one token more
pub names_none : (l : Line) → names_after l [] ≡ []
unfolding names_after
names_none l = refl

pub names_more : (l : Line) (x : Token) (xs : List Token) → names_after l (x ∷ xs) ≡ names_from l x ++ names_after (line_after l x) xs
unfolding names_after
names_more l x xs = refl
