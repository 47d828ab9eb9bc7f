-- Codes in strings: what single steps read, and that what is spelled so is read.
use Rattle.std.proofs.Common.{◌≡◌, ℕ, ◌+◌, ◌*◌, ◌<◌, ◌≤◌, true, false, eqb, List, [], ◌∷◌, ◌++◌, Ok, refl, ap, ◌∙◌, subst, arith}
use Rattle.std.specs.Char.{is_ascii_hexdigit, digit_value}
use Rattle.std.proofs.lemmas.Bool.{eqb-true, lt-ltb}
use Rattle.std.proofs.lemmas.Bool.Decides.{nat_tests}
use Rattle.reading.specs.Codes.{is_mark}
use Rattle.reading.specs.Reading.{Text, Refused}
use Rattle.reading.proofs.Tools.{kept, passed, bound, ok_is}
use Rattle.p21_read.specs.declared.fault.P21Cause.{P21Cause}
use Rattle.p21_read.specs.declared.fault.P21Cause.TheVariants.{BadText, BadDirective}
use Rattle.p21_read.specs.Quoted.{next, exactly, hex, byte, unit, long, is_scalar, is_high, is_low, joined, put}
use Rattle.p21_read.specs.StringGrammar.{code2, code4, code8, AreHex}

abbrev pub Had : Type 0
Had = ℕ × Text

-- ---- what single steps read

pub record IsNext (t : Text) (x : Had) : Type 0 where
  pub parts : t ≡ x.0 ∷ x.1
  pub character : is_mark x.0 ≡ false

pub next_is : (q t : Text) (x : Had) → next q t ≡ Ok x → IsNext t x
unfolding next
next_is q [] x e = absurd cc
next_is q (c ∷ t) x e =
    let k = passed (is_mark c) (Ok (c, t)) BadText q x e in
    subst (λ (y : Had). IsNext (c ∷ t) y) (ok_is {E = Refused P21Cause} (c, t) x k.1) (record { parts = refl; character = k.0 })

pub exactly_is : (c : ℕ) (q t : Text) (x : Unit {0} × Text) → exactly c q t ≡ Ok x → t ≡ c ∷ x.1
unfolding exactly
exactly_is c q t x e =
    let b = bound {r = next q t} e in
    let k = kept (eqb b.0.0 c) (Ok (tt, b.0.1)) BadDirective q x b.2 in
    (next_is q t b.0 b.1).parts ∙ ap (λ (n : ℕ). n ∷ b.0.1) (eqb-true b.0.0 c k.0) ∙ ap (λ (y : Unit {0} × Text). c ∷ y.1) (ok_is {E = Refused P21Cause} (tt, b.0.1) x k.1)

record IsHex (t : Text) (n : ℕ) (u : Text) : Type 0 where
  c : ℕ
  parts : t ≡ c ∷ u
  is : is_ascii_hexdigit c ≡ true
  value : digit_value c ≡ n

hex_is : (q t : Text) (x : Had) → hex q t ≡ Ok x → IsHex t x.0 x.1
unfolding hex
hex_is q t x e =
    let b = bound {r = next q t} e in
    let k = kept (is_ascii_hexdigit b.0.0) (Ok (digit_value b.0.0, b.0.1)) BadDirective q x b.2 in
    let same = ok_is {E = Refused P21Cause} (digit_value b.0.0, b.0.1) x k.1 in
    record { c = b.0.0; parts = (next_is q t b.0 b.1).parts ∙ ap (λ (y : Had). b.0.0 ∷ y.1) same; is = k.0; value = ap (λ (y : Had). y.0) same }

pub record IsByte (t : Text) (n : ℕ) (u : Text) : Type 0 where
  pub a : ℕ
  pub b : ℕ
  pub parts : t ≡ a ∷ b ∷ u
  pub first : is_ascii_hexdigit a ≡ true
  pub second : is_ascii_hexdigit b ≡ true
  pub value : code2 a b ≡ n

pub byte_is : (q t : Text) (x : Had) → byte q t ≡ Ok x → IsByte t x.0 x.1
unfolding byte
byte_is q t x e =
    let b1 = bound {r = hex q t} e in
    let b2 = bound {r = hex q b1.0.1} b1.2 in
    let h1 = hex_is q t b1.0 b1.1 in
    let h2 = hex_is q b1.0.1 b2.0 b2.1 in
    let same = ok_is {E = Refused P21Cause} (16 * b1.0.0 + b2.0.0, b2.0.1) x b2.2 in
    record {
      a = h1.c;
      b = h2.c;
      parts = h1.parts ∙ ap (λ (r : Text). h1.c ∷ r) h2.parts ∙ ap (λ (y : Had). h1.c ∷ h2.c ∷ y.1) same;
      first = h1.is;
      second = h2.is;
      value = ap (λ (n : ℕ). 16 * n + digit_value h2.c) h1.value ∙ ap (λ (n : ℕ). 16 * b1.0.0 + n) h2.value ∙ ap (λ (y : Had). y.0) same;
    }

pub record IsUnit (t : Text) (n : ℕ) (u : Text) : Type 0 where
  pub a : ℕ
  pub b : ℕ
  pub c : ℕ
  pub d : ℕ
  pub parts : t ≡ a ∷ b ∷ c ∷ d ∷ u
  pub are : AreHex a b c d
  pub value : code4 a b c d ≡ n

pub unit_is : (q t : Text) (x : Had) → unit q t ≡ Ok x → IsUnit t x.0 x.1
unfolding unit
unit_is q t x e =
    let b1 = bound {r = byte q t} e in
    let b2 = bound {r = byte q b1.0.1} b1.2 in
    let h1 = byte_is q t b1.0 b1.1 in
    let h2 = byte_is q b1.0.1 b2.0 b2.1 in
    let same = ok_is {E = Refused P21Cause} (256 * b1.0.0 + b2.0.0, b2.0.1) x b2.2 in
    record {
      a = h1.a;
      b = h1.b;
      c = h2.a;
      d = h2.b;
      parts = h1.parts ∙ ap (λ (r : Text). h1.a ∷ h1.b ∷ r) h2.parts ∙ ap (λ (y : Had). h1.a ∷ h1.b ∷ h2.a ∷ h2.b ∷ y.1) same;
      are = record { first = h1.first; second = h1.second; third = h2.first; fourth = h2.second };
      value = ap (λ (n : ℕ). 256 * n + code2 h2.a h2.b) h1.value ∙ ap (λ (n : ℕ). 256 * b1.0.0 + n) h2.value ∙ ap (λ (y : Had). y.0) same;
    }

pub record IsLong (t : Text) (n : ℕ) (u : Text) : Type 0 where
  pub a : ℕ
  pub b : ℕ
  pub c : ℕ
  pub d : ℕ
  pub e : ℕ
  pub f : ℕ
  pub g : ℕ
  pub h : ℕ
  pub parts : t ≡ a ∷ b ∷ c ∷ d ∷ e ∷ f ∷ g ∷ h ∷ u
  pub are : AreHex a b c d
  pub too : AreHex e f g h
  pub value : code8 a b c d e f g h ≡ n

pub long_is : (q t : Text) (x : Had) → long q t ≡ Ok x → IsLong t x.0 x.1
unfolding long
long_is q t x e =
    let b1 = bound {r = unit q t} e in
    let b2 = bound {r = unit q b1.0.1} b1.2 in
    let h1 = unit_is q t b1.0 b1.1 in
    let h2 = unit_is q b1.0.1 b2.0 b2.1 in
    let same = ok_is {E = Refused P21Cause} (65536 * b1.0.0 + b2.0.0, b2.0.1) x b2.2 in
    record {
      a = h1.a;
      b = h1.b;
      c = h1.c;
      d = h1.d;
      e = h2.a;
      f = h2.b;
      g = h2.c;
      h = h2.d;
      parts = h1.parts ∙ ap (λ (r : Text). h1.a ∷ h1.b ∷ h1.c ∷ h1.d ∷ r) h2.parts ∙ ap (λ (y : Had). h1.a ∷ h1.b ∷ h1.c ∷ h1.d ∷ h2.a ∷ h2.b ∷ h2.c ∷ h2.d ∷ y.1) same;
      are = h1.are;
      too = h2.are;
      value = ap (λ (n : ℕ). 65536 * n + code4 h2.a h2.b h2.c h2.d) h1.value ∙ ap (λ (n : ℕ). 65536 * b1.0.0 + n) h2.value ∙ ap (λ (y : Had). y.0) same;
    }

abbrev pub Out : Type 0
Out = List ℕ × Text

pub put_is : (q : Text) (s : List ℕ) (code : ℕ) (t : Text) (x : Out) → put q s code t ≡ Ok x → (is_scalar code ≡ true) × ((s ++ code ∷ [], t) ≡ x)
unfolding put
put_is q s code t x e = let k = kept (is_scalar code) (Ok (s ++ code ∷ [], t)) BadDirective q x e in (k.0, ok_is {E = Refused P21Cause} (s ++ code ∷ [], t) x k.1)

-- ---- what is spelled so is read

pub hex_other : (a : ℕ) → is_ascii_hexdigit a ≡ true → eqb a 92 ≡ false
hex_other a is = grind (arith, nat_tests)

hex_character : (a : ℕ) → is_ascii_hexdigit a ≡ true → is_mark a ≡ false
hex_character a is = grind (arith, nat_tests)

pub not_high : (n : ℕ) → is_scalar n ≡ true → is_high n ≡ false
not_high n is = grind (arith, nat_tests)

digit_small : (a : ℕ) → digit_value a ≤ 36
digit_small a = grind (arith, nat_tests)

pub code2_scalar : (a b : ℕ) → is_scalar (code2 a b) ≡ true
code2_scalar a b = let low : code2 a b < 0xD800 = omega (arith, digit_small a, digit_small b) in rw (lt-ltb (code2 a b) 0xD800 low) refl

pub joined_scalar : (h l : ℕ) → is_high h ≡ true → is_low l ≡ true → is_scalar (joined h l) ≡ true
joined_scalar h l is_h is_l = grind (arith, nat_tests)

pub shift_character : (c : ℕ) → is_scalar (c + 128) ≡ true → is_mark c ≡ false
shift_character c is = grind (arith, nat_tests)

hex_reads : (q : Text) (a : ℕ) (t : Text) → is_ascii_hexdigit a ≡ true → hex q (a ∷ t) ≡ Ok (digit_value a, t)
unfolding hex next
hex_reads q a t is = rw (hex_character a is, is) refl

pub byte_reads : (q : Text) (a b : ℕ) (t : Text) → is_ascii_hexdigit a ≡ true → is_ascii_hexdigit b ≡ true → byte q (a ∷ b ∷ t) ≡ Ok (code2 a b, t)
unfolding byte
byte_reads q a b t first second = rw (hex_reads q a (b ∷ t) first, hex_reads q b t second) refl

pub unit_reads : (q : Text) (a b c d : ℕ) (t : Text) → AreHex a b c d → unit q (a ∷ b ∷ c ∷ d ∷ t) ≡ Ok (code4 a b c d, t)
unfolding unit
unit_reads q a b c d t are = rw (byte_reads q a b (c ∷ d ∷ t) are.first are.second, byte_reads q c d t are.third are.fourth) refl

pub long_reads : (q : Text) (a b c d e f g h : ℕ) (t : Text) → AreHex a b c d → AreHex e f g h → long q (a ∷ b ∷ c ∷ d ∷ e ∷ f ∷ g ∷ h ∷ t) ≡ Ok (code8 a b c d e f g h, t)
unfolding long
long_reads q a b c d e f g h t are too = rw (unit_reads q a b c d (e ∷ f ∷ g ∷ h ∷ t) are, unit_reads q e f g h t too) refl

pub put_reads : (q : Text) (s : List ℕ) (c : ℕ) (t : Text) → is_scalar c ≡ true → put q s c t ≡ Ok (s ++ c ∷ [], t)
unfolding put
put_reads q s c t is = rw is refl
