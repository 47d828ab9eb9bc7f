-- What follows from steps that gave a value, and from tests.
use Rattle.std.proofs.Common.{◌≡◌, ℕ, Bool, true, false, ◌&&◌, ◌||◌, ◌∷◌, Result, Ok, eqb, refl, ap, ◌∙◌}
use Rattle.std.proofs.lemmas.Bool.{eqb-true}
use Rattle.reading.specs.Reading.{Text, Read, Refused}
use Rattle.reading.proofs.Tools.{ok_is}
use Rattle.express_decl.specs.declared.decl.DeclCause.{DeclCause}
use Rattle.express_decl.specs.Tokens.{next_is, behind, Token, Lexed}
use Rattle.express_decl.proofs.Places.{next_taken}

-- ---- tests

pub or_false : (a b : Bool) → (a || b) ≡ false → (a ≡ false) × (b ≡ false)
or_false true b e = absurd cc
or_false false b e = (refl, e)

pub and_true : (a b : Bool) → (a && b) ≡ true → (a ≡ true) × (b ≡ true)
and_true true b e = (refl, e)
and_true false b e = absurd cc

-- two codes with which a text begins
pub two_are : (a b c : ℕ) (t : Text) → (eqb c a && next_is b t) ≡ true → c ∷ t ≡ a ∷ b ∷ behind t
two_are a b c t e =
    let k = and_true (eqb c a) (next_is b t) e in
    ap (λ (n : ℕ). n ∷ t) (eqb-true c a k.0) ∙ ap (λ (v : Text). a ∷ v) (next_taken b t k.1)

-- ---- values of steps

-- a token and where it begins
abbrev pub lexed : Token → Text → Lexed
lexed x at = record { token = x; at = at }

abbrev pub gave : {A : Type 0} → A → Result A (Refused DeclCause)
gave x = Ok x

abbrev pub given : {A : Type 0} → A → Text → Read DeclCause A
given x t = Ok (x, t)

abbrev pub turned : {S : Type 0} → Bool → S → Text → Read DeclCause (Bool × S)
turned a r t = Ok ((a, r), t)

pub same : {A : Type 0} {x y : A} → gave x ≡ gave y → x ≡ y
same {x = x} {y = y} e = ok_is {E = Refused DeclCause} x y e

pub value_of : {A : Type 0} {x y : A} {t u : Text} → given x t ≡ given y u → x ≡ y
value_of {A = A} e = ap (λ (p : A × Text). p.0) (same e)

pub left_of : {A : Type 0} {x y : A} {t u : Text} → given x t ≡ given y u → t ≡ u
left_of {A = A} e = ap (λ (p : A × Text). p.1) (same e)

-- ---- of turns

pub flag_of : {S : Type 0} {a b : Bool} {r q : S} {t u : Text} → turned a r t ≡ turned b q u → a ≡ b
flag_of {S = S} e = ap (λ (p : (Bool × S) × Text). p.0.0) (same e)

pub state_of : {S : Type 0} {a b : Bool} {r q : S} {t u : Text} → turned a r t ≡ turned b q u → r ≡ q
state_of {S = S} e = ap (λ (p : (Bool × S) × Text). p.0.1) (same e)

pub never_last : {S : Type 0} {r q : S} {t u : Text} → turned true r t ≡ turned false q u → ⊥
never_last e = let wrong : true ≡ false = flag_of e in absurd cc

pub never_more : {S : Type 0} {r q : S} {t u : Text} → turned false r t ≡ turned true q u → ⊥
never_more e = let wrong : false ≡ true = flag_of e in absurd cc
