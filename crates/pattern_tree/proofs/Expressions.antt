-- Expressions: what a program stands for, with the texts that it takes, its marks, and what is left to
-- be read from the marks on.
use Rattle.std.proofs.Common.{◌≡◌, ◌<◌, ℕ, zero, suc, Bool, true, false, ◌&&◌, ◌||◌, [], ◌∷◌, ◌++◌, ◌⊎◌}
use Rattle.pattern_tree.specs.Matching.{Text}
use Rattle.pattern_tree.specs.declared.machine.Wire.{Wire}
use Rattle.pattern_tree.specs.Machine.{wire, or, no_way}

pub data Expr : Type 0 where
  one : ℕ → Expr
  blank : Expr
  both : Expr → Expr → Expr
  never : Expr
  either : Expr → Expr → Expr
  loop : Bool → Expr → Expr

-- the text splits in two
pub record Split (P Q : Text → Type 0) (text : Text) : Type 0 where
  pub front : Text
  pub back : Text
  pub parts : text ≡ front ++ back
  pub first : P front
  pub second : Q back

-- the join of so many texts
abbrev pub Power : (Text → Type 0) → ℕ → Text → Type 0
Power P zero s = s ≡ []
Power P (suc k) s = Split P (Power P k) s

-- the join of some number of texts, which may be none only by the flag
pub record Powers (empty : Bool) (P : Text → Type 0) (text : Text) : Type 0 where
  pub number : ℕ
  pub enough : empty ≡ false → 0 < number
  pub texts : Power P number text

-- which set holds which character
abbrev pub Hits : Type 0
Hits = ℕ → ℕ → Bool

pub record Hit (hit : Hits) (k : ℕ) (s : Text) : Type 0 where
  pub c : ℕ
  pub only : s ≡ c ∷ []
  pub holds : hit k c ≡ true

-- the texts of an expression
abbrev pub Takes : Hits → Expr → Text → Type 0
Takes hit (one k) s = Hit hit k s
Takes hit blank s = s ≡ []
Takes hit (both p q) s = Split (Takes hit p) (Takes hit q) s
Takes hit never s = ⊥
Takes hit (either p q) s = Takes hit p s ⊎ Takes hit q s
Takes hit (loop b p) s = Powers b (Takes hit p) s

abbrev pub takes_empty : Expr → Bool
takes_empty (one k) = false
takes_empty blank = true
takes_empty (both p q) = takes_empty p && takes_empty q
takes_empty never = false
takes_empty (either p q) = takes_empty p || takes_empty q
takes_empty (loop b p) = b

-- sides of an alternation, up to their end
abbrev pub Lined : Expr → Type 0
Lined (one k) = ⊥
Lined blank = ⊥
Lined (both p q) = ⊥
Lined never = Unit {0}
Lined (either p q) = Lined q
Lined (loop b p) = ⊥

-- what is repeated without end takes the empty text only where the repeat does, and alternations lean
-- to the right
abbrev pub Fine : Expr → Type 0
Fine (one k) = Unit {0}
Fine blank = Unit {0}
Fine (both p q) = Fine p × Fine q
Fine never = Unit {0}
Fine (either p q) = Fine p × Fine q × Lined q
Fine (loop b p) = (takes_empty p ≡ true → b ≡ true) × Fine p

-- marks: of a single character, whether it was just taken; of a repeat, whether its part was just ended
abbrev pub Marks : Expr → Type 0
Marks (one k) = Bool
Marks blank = Unit {0}
Marks (both p q) = Marks p × Marks q
Marks never = Unit {0}
Marks (either p q) = Marks p × Marks q
Marks (loop b p) = Bool × Marks p

abbrev pub unmarked : (e : Expr) → Marks e
unmarked (one k) = false
unmarked blank = tt
unmarked (both p q) = (unmarked p, unmarked q)
unmarked never = tt
unmarked (either p q) = (unmarked p, unmarked q)
unmarked (loop b p) = (false, unmarked p)

-- the texts that are left to be read from some mark on
abbrev pub Rest : Hits → (e : Expr) → Marks e → Text → Type 0
Rest hit (one k) m s = (m ≡ true) × (s ≡ [])
Rest hit blank m s = ⊥
Rest hit (both p q) m s = Split (Rest hit p m.0) (Takes hit q) s ⊎ Rest hit q m.1 s
Rest hit never m s = ⊥
Rest hit (either p q) m s = Rest hit p m.0 s ⊎ Rest hit q m.1 s
Rest hit (loop b p) m s = Split (Rest hit p m.1) (Powers true (Takes hit p)) s

-- whether the end is reached, by the marks or, where the wire is on, through the empty text
abbrev pub final : (e : Expr) → Marks e → Bool → Bool
final (one k) m x = m
final blank m x = x
final (both p q) m x = final q m.1 (final p m.0 x)
final never m x = false
final (either p q) m x = final p m.0 x || final q m.1 x
final (loop b p) m x = final p m.1 false || (b && x)

-- the mark of each repeat says whether its part was just ended
abbrev pub Good : (e : Expr) → Marks e → Type 0
Good (one k) m = Unit {0}
Good blank m = Unit {0}
Good (both p q) m = Good p m.0 × Good q m.1
Good never m = Unit {0}
Good (either p q) m = Good p m.0 × Good q m.1
Good (loop b p) m = (m.0 ≡ final p m.1 false) × Good p m.1

pub record Passed (e : Expr) : Type 0 where
  pub marks : Marks e
  pub out : Wire

-- one character: new marks, and the wire behind
abbrev pub pass : (ℕ → Bool) → (e : Expr) → Marks e → Wire → Passed e
pass hit (one k) m w = record { marks = w.now && hit k; out = wire m (w.now && hit k) }
pass hit blank m w = record { marks = m; out = w }
pass hit (both p q) m w =
    let r = pass hit p m.0 w in let t = pass hit q m.1 r.out in record { marks = (r.marks, t.marks); out = t.out }
pass hit never m w = record { marks = m; out = no_way }
pass hit (either p q) m w =
    let r = pass hit p m.0 w in let t = pass hit q m.1 w in record { marks = (r.marks, t.marks); out = or r.out t.out }
pass hit (loop b p) m w =
    let r = pass hit p m.1 (wire (w.now || m.0) false) in
    record { marks = (r.out.next, r.marks); out = wire (r.out.now || (b && w.now)) (r.out.next || (b && w.next)) }
