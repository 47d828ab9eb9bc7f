-- One character of a set: what is read is spelled so, and what is spelled so is read.
use Rattle.std.proofs.Common.{◌≡◌, ℕ, ◌<◌, ◌≤◌, Bool, true, false, eqb, [], ◌∷◌, ◌++◌, length, Option, Some, None, Ok, refl, sym, ap, ◌∙◌, subst, inl, inr, arith, append_assoc}
use Rattle.std.proofs.lemmas.Bool.{eqb-true}
use Rattle.std.proofs.lemmas.List.{append-nil}
use Rattle.reading.specs.Reading.{Text, Refused, turns}
use Rattle.reading.specs.Runs.{begins}
use Rattle.reading.proofs.Tools.{bound as steps, chosen, ok_is, each_sound, Run, all_run}
use Rattle.pattern_tree.specs.declared.tree.Class.{Class}
use Rattle.pattern_tree.specs.declared.tree.Part.{Part}
use Rattle.pattern_tree.specs.declared.tree.Part.TheVariants as part_of
use Rattle.pattern_tree.specs.declared.tree.Set.{Set}
use Rattle.xsd_pattern.specs.declared.fault.PatternCause.{PatternCause}
use Rattle.xsd_pattern.specs.declared.fault.PatternCause.TheVariants.{Syntax}
use Rattle.xsd_pattern.specs.Characters.{escaped, class_of}
use Rattle.xsd_pattern.specs.Sets.{Parts, range, one, set, literal, escape_else, escape_by, escape, last_dash, behind_dash, behind_member, member_escape, is_empty, dash, class_turn, class_body, class_}
use Rattle.xsd_pattern.specs.Grammar.{Member, IsPart, Further, AllParts, IsSet, is_caret}
use Rattle.xsd_pattern.proofs.SetLaws.{escaped_no_class, plain_other, range_end_complete, member_shorter, Turned, turn_is}

-- ---- what is read is spelled so

-- the parts behind those that are read: the dash may begin the first one alone
abbrev From : Parts → Text → Parts → Text → Type 0
From [] t ps u = AllParts t ps u
From (q ∷ qs) t ps u = Further t ps u

from_part : (s : Parts) (t : Text) (p : Part) (r : Text) (ps : Parts) (u : Text) → IsPart t p r → Further r ps u → From s t (p ∷ ps) u
from_part [] t p r ps u is others = AllParts.part t p r ps u is others
from_part (q ∷ qs) t p r ps u is others = Further.more t p r ps u is others

from_further : (s : Parts) (t : Text) (ps : Parts) (u : Text) → is_empty s ≡ false → Further t ps u → From s t ps u
from_further [] t ps u some others = absurd cc
from_further (q ∷ qs) t ps u some others = others

from_dash : (s : Parts) (t : Text) (ps : Parts) (u : Text) → is_empty s ≡ true → Further t ps u → From s (45 ∷ t) (one 45 ∷ ps) u
from_dash [] t ps u none others = AllParts.dash t ps u others
from_dash (q ∷ qs) t ps u none others = absurd cc

behind_some : (s : Parts) (p : Part) (t : Text) (ps : Parts) (u : Text) → From (s ++ p ∷ []) t ps u → Further t ps u
behind_some [] p t ps u others = others
behind_some (q ∷ qs) p t ps u others = others

-- the parts that the loop adds
abbrev Adds : Parts → Text → Parts → Text → Type 0
Adds s t r u = (ps : Parts) × From s t ps u × (r ≡ s ++ ps)

last_adds : (s : Parts) (t : Text) (others : Bool) (r : Parts) (u : Text) → others ≡ false → Turned s t others r u → Adds s t r u
last_adds s t _ _ u last (Turned.ends v some is) = ([], rw is (from_further s (93 ∷ v) [] v some (Further.ends v)), sym (append-nil s))
last_adds s t _ _ u last (Turned.last v some is) = (one 45 ∷ [], rw is (from_further s (45 ∷ 93 ∷ v) (one 45 ∷ []) v some (Further.dash v)), refl)
last_adds s t _ _ u last (Turned.both a v m) =
    (one a ∷ one 45 ∷ [], from_part s t (one a) (45 ∷ 93 ∷ v) (one 45 ∷ []) v (IsPart.character t a (45 ∷ 93 ∷ v) m) (Further.dash v), append_assoc s (one a ∷ []) (one 45 ∷ []))
last_adds s t _ _ u last (Turned.first v none is) = absurd cc
last_adds s t _ _ u last (Turned.part p v is) = absurd cc

more_adds : (s : Parts) (t : Text) (others : Bool) (r : Parts) (u : Text) (q : Parts) (w : Text) → others ≡ true → Turned s t others r u → Adds r u q w → Adds s t q w
more_adds s t _ _ u q w goes_on (Turned.ends v some is) rest = absurd cc
more_adds s t _ _ u q w goes_on (Turned.last v some is) rest = absurd cc
more_adds s t _ _ u q w goes_on (Turned.both a v m) rest = absurd cc
more_adds s t _ _ u q w goes_on (Turned.first v none is) rest =
    (one 45 ∷ rest.0, rw is (from_dash s v rest.0 w none (behind_some s (one 45) v rest.0 w rest.1)), rest.2 ∙ append_assoc s (one 45 ∷ []) rest.0)
more_adds s t _ _ u q w goes_on (Turned.part p v is) rest =
    (p ∷ rest.0, from_part s t p v rest.0 w is (behind_some s p v rest.0 w rest.1), rest.2 ∙ append_assoc s (p ∷ []) rest.0)

turn_last : (s : Parts) (t : Text) (r : Parts) (u : Text) → class_turn s t ≡ Ok ((false, r), u) → Adds s t r u
turn_last s t r u e = last_adds s t false r u refl (turn_is s t ((false, r), u) e)

turn_more : (s : Parts) (t : Text) (r : Parts) (u : Text) (q : Parts) (w : Text) → class_turn s t ≡ Ok ((true, r), u) → Adds r u q w → Adds s t q w
turn_more s t r u q w e rest = more_adds s t true r u q w refl (turn_is s t ((true, r), u) e) rest

abbrev Read_set : Type 0
Read_set = Set × Text

body_sound : (negated : Bool) (t : Text) (x : Read_set) → class_body negated t ≡ Ok x → (ps : Parts) × AllParts t ps x.1 × (x.0 ≡ set negated ps)
unfolding class_body
body_sound negated t x e =
    let b = steps e in
    let a = each_sound Syntax class_turn Adds turn_last turn_more (turns t) [] t b.0.0 b.0.1 b.1 in
    let same = ok_is {E = Refused PatternCause} (set negated b.0.0, b.0.1) x b.2 in
    (a.0, subst (λ (w : Text). AllParts t a.0 w) (ap (λ (y : Read_set). y.1) same) a.1, sym (ap (λ (y : Read_set). y.0) same) ∙ ap (λ (ps : Parts). set negated ps) a.2)

pub class_sound : (t : Text) (x : Read_set) → class_ t ≡ Ok x → IsSet (91 ∷ t) x.0 x.1
unfolding class_
class_sound [] x e = absurd cc
class_sound (c ∷ t) x e =
    elim (chosen (eqb c 94) (class_body true t) (class_body false (c ∷ t)) (Ok x) e) [
      | inl h ↦ let b = body_sound true t x h.1 in rw (eqb-true c 94 h.0, b.2) (IsSet.beside t b.0 x.1 b.1)
      | inr h ↦ let b = body_sound false (c ∷ t) x h.1 in rw b.2 (IsSet.among (c ∷ t) b.0 x.1 h.0 b.1)
    ]

as_set : (t : Text) (x y : Read_set) → IsSet t x.0 x.1 → x ≡ y → IsSet t y.0 y.1
as_set t x y is e = subst (λ (z : Read_set). IsSet t z.0 z.1) e is

else_sound : (o : Option ℕ) (e : ℕ) (t : Text) (x : Read_set) → escaped e ≡ o → escape_else o e t ≡ Ok x → IsSet (92 ∷ e ∷ t) x.0 x.1
else_sound (Some c) e t x is h = as_set (92 ∷ e ∷ t) (literal c, t) x (IsSet.escape e c t is) (ok_is {E = Refused PatternCause} (literal c, t) x h)
else_sound None e t x is h = absurd cc

by_sound : (o : Option Class) (e : ℕ) (t : Text) (x : Read_set) → class_of e ≡ o → escape_by o e t ≡ Ok x → IsSet (92 ∷ e ∷ t) x.0 x.1
by_sound (Some k) e t x is h =
    let one_class = set false (part_of.Class k ∷ []) in
    as_set (92 ∷ e ∷ t) (one_class, t) x (IsSet.class e k t is) (ok_is {E = Refused PatternCause} (one_class, t) x h)
by_sound None e t x is h = else_sound (escaped e) e t x refl h

pub escape_sound : (t : Text) (x : Read_set) → escape t ≡ Ok x → IsSet (92 ∷ t) x.0 x.1
unfolding escape
escape_sound [] x h = absurd cc
escape_sound (e ∷ t) x h = by_sound (class_of e) e t x refl h

-- ---- what is spelled so is read

push_some : (s : Parts) (p : Part) → is_empty (s ++ p ∷ []) ≡ false
push_some [] p = refl
push_some (q ∷ qs) p = refl

-- a turn at a character of a class
member_turn : {t : Text} {a : ℕ} {u : Text} (s : Parts) → Member t a u → class_turn s t ≡ behind_member s a u
unfolding class_turn member_escape
member_turn s (Member.plain c t is) = let p = plain_other c is in rw (p.0, p.1, p.2, p.3) refl
member_turn s (Member.escape e c t is) = rw (escaped_no_class e c is, is) refl

-- the end of a range isn't the bracket
range_goes_on : {t : Text} {b : ℕ} {u : Text} (s : Parts) (a : ℕ) → Member t b u → a ≤ b → behind_dash s a t ≡ Ok ((true, s ++ range a b ∷ []), u)
unfolding behind_dash
range_goes_on s a (Member.plain c t is) le = rw ((plain_other c is).2, range_end_complete a (Member.plain c t is) le) refl
range_goes_on s a (Member.escape e c t is) le = rw (range_end_complete a (Member.escape e c t is) le) refl

abbrev is_dash : ℕ → Bool
is_dash c = eqb c 45

member_no_dash : {t : Text} {a : ℕ} {u : Text} → Member t a u → begins is_dash t ≡ false
member_no_dash (Member.plain c t is) = (plain_other c is).3
member_no_dash (Member.escape e c t is) = refl

part_no_dash : {t : Text} {p : Part} {u : Text} → IsPart t p u → begins is_dash t ≡ false
part_no_dash (IsPart.character t c u m) = member_no_dash m
part_no_dash (IsPart.from_to t a r b u m n le) = member_no_dash m
part_no_dash (IsPart.class e k t is) = refl

alone : (s : Parts) (a : ℕ) (t : Text) → begins is_dash t ≡ false → behind_member s a t ≡ Ok ((true, s ++ one a ∷ []), t)
unfolding behind_member
alone s a [] isnt = refl
alone s a (c ∷ t) isnt = rw isnt refl

part_shorter : {t : Text} {p : Part} {u : Text} → IsPart t p u → length u < length t
part_shorter (IsPart.character t c u m) = member_shorter m
part_shorter (IsPart.from_to t a r b u m n le) = omega (arith, member_shorter m, member_shorter n)
part_shorter (IsPart.class e k t is) = omega arith

-- a part, where the turns for those behind it are known
goes_on : {t : Text} {r : Text} {u : Text} (s : Parts) (p : Part) (ps : Parts) → class_turn s t ≡ Ok ((true, s ++ p ∷ []), r) → length r < length t
    → Run class_turn (s ++ p ∷ []) r ((s ++ p ∷ []) ++ ps) u → Run class_turn s t (s ++ p ∷ ps) u
goes_on {t = t} {r = r} {u = u} s p ps turn less rest =
    subst (λ (all : Parts). Run class_turn s t all u) (append_assoc s (p ∷ []) ps) (Run.more s t (s ++ p ∷ []) r ((s ++ p ∷ []) ++ ps) u turn less rest)

character_runs : {t : Text} {a : ℕ} {r : Text} {ps : Parts} {u : Text} (s : Parts) → Member t a r → Further r ps u
    → Run class_turn (s ++ one a ∷ []) r ((s ++ one a ∷ []) ++ ps) u → Run class_turn s t (s ++ one a ∷ ps) u
unfolding behind_member behind_dash
character_runs {a = a} s m (Further.ends v) rest = goes_on s (one a) [] (member_turn s m) (member_shorter m) rest
character_runs {t = t} {a = a} s m (Further.dash v) rest =
    subst (λ (all : Parts). Run class_turn s t all v) (append_assoc s (one a ∷ []) (one 45 ∷ []))
    (Run.last s t ((s ++ one a ∷ []) ++ one 45 ∷ []) v (member_turn s m))
character_runs {a = a} s m (Further.more r p v ps u is others) rest = goes_on s (one a) (p ∷ ps) (member_turn s m ∙ alone s a r (part_no_dash is)) (member_shorter m) rest

part_runs : {t : Text} {p : Part} {r : Text} {ps : Parts} {u : Text} (s : Parts) → IsPart t p r → Further r ps u
    → Run class_turn (s ++ p ∷ []) r ((s ++ p ∷ []) ++ ps) u → Run class_turn s t (s ++ p ∷ ps) u
unfolding class_turn member_escape behind_member
part_runs s (IsPart.character t c r m) others rest = character_runs s m others rest
part_runs {ps = ps} s (IsPart.from_to t a r b u m n le) others rest = goes_on s (range a b) ps (member_turn s m ∙ range_goes_on s a n le) (omega (arith, member_shorter m, member_shorter n)) rest
part_runs {ps = ps} s (IsPart.class e k t is) others rest = goes_on s (part_of.Class k) ps (rw is refl) (omega arith) rest

further_runs : {t : Text} {ps : Parts} {u : Text} (s : Parts) → is_empty s ≡ false → Further t ps u → Run class_turn s t (s ++ ps) u
unfolding class_turn dash last_dash
further_runs s some (Further.ends t) = rw (append-nil s) (Run.last s (93 ∷ t) s t (rw some refl))
further_runs s some (Further.dash t) = Run.last s (45 ∷ 93 ∷ t) (s ++ one 45 ∷ []) t (rw some refl)
further_runs s some (Further.more t p r ps u is others) = part_runs s is others (further_runs (s ++ p ∷ []) (push_some s p) others)

all_parts_run : {t : Text} {ps : Parts} {u : Text} → AllParts t ps u → Run class_turn [] t ps u
unfolding class_turn dash
all_parts_run (AllParts.dash t ps u others) = Run.more [] (45 ∷ t) (one 45 ∷ []) t (one 45 ∷ ps) u refl (omega arith) (further_runs (one 45 ∷ []) refl others)
all_parts_run (AllParts.part t p r ps u is others) = part_runs [] is others (further_runs (p ∷ []) refl others)

body_complete : {t : Text} {ps : Parts} {u : Text} (negated : Bool) → AllParts t ps u → class_body negated t ≡ Ok (set negated ps, u)
unfolding class_body
body_complete negated parts = rw (all_run Syntax class_turn (all_parts_run parts)) refl

further_shorter : {t : Text} {ps : Parts} {u : Text} → Further t ps u → length u < length t
further_shorter (Further.ends t) = omega arith
further_shorter (Further.dash t) = omega arith
further_shorter (Further.more t p r ps u is others) = omega (arith, part_shorter is, further_shorter others)

pub all_parts_shorter : {t : Text} {ps : Parts} {u : Text} → AllParts t ps u → length u < length t
all_parts_shorter (AllParts.dash t ps u others) = omega (arith, further_shorter others)
all_parts_shorter (AllParts.part t p r ps u is others) = omega (arith, part_shorter is, further_shorter others)

pub among_complete : {t : Text} {ps : Parts} {u : Text} → begins is_caret t ≡ false → AllParts t ps u → class_ t ≡ Ok (set false ps, u)
unfolding class_
among_complete {t = []} isnt parts = absurd (omega (arith, all_parts_shorter parts))
among_complete {t = c ∷ t} isnt parts = rw (isnt, body_complete false parts) refl

pub beside_complete : {t : Text} {ps : Parts} {u : Text} → AllParts t ps u → class_ (94 ∷ t) ≡ Ok (set true ps, u)
unfolding class_
beside_complete parts = rw (body_complete true parts) refl

pub escape_complete : (e c : ℕ) (t : Text) → escaped e ≡ Some c → escape (e ∷ t) ≡ Ok (literal c, t)
unfolding escape
escape_complete e c t is = rw (escaped_no_class e c is, is) refl

pub class_escape_complete : (e : ℕ) (k : Class) (t : Text) → class_of e ≡ Some k → escape (e ∷ t) ≡ Ok (set false (part_of.Class k ∷ []), t)
unfolding escape
class_escape_complete e k t is = rw is refl

-- ---- a turn that goes on leaves less

turned_shorter : (s : Parts) (t : Text) (goes : Bool) (r : Parts) (u : Text) → goes ≡ true → Turned s t goes r u → length u < length t
turned_shorter s t _ _ u goes (Turned.ends v some is) = absurd cc
turned_shorter s t _ _ u goes (Turned.last v some is) = absurd cc
turned_shorter s t _ _ u goes (Turned.both a v m) = absurd cc
turned_shorter s t _ _ u goes (Turned.first v none is) = omega (arith, ap length is)
turned_shorter s t _ _ u goes (Turned.part p v is) = part_shorter is

pub class_shortens : (s : Parts) (t : Text) (r : Parts) (u : Text) → class_turn s t ≡ Ok ((true, r), u) → length u < length t
class_shortens s t r u e = turned_shorter s t true r u refl (turn_is s t ((true, r), u) e)
