-- Steps from token to token: what they pass, and that they pass it.
use Rattle.std.proofs.Common.{◌≡◌, ℕ, ◌<◌, true, false, List, [], ◌∷◌, length, Option, Some, None, Ok, refl, sym, ap, ◌∙◌, subst}
use Rattle.std.proofs.lemmas.Bool.{eqb-true}
use Rattle.std.specs.Str.{bytes_eq, str_to_ascii_lowercase, str_eq_ignore_ascii_case}
use Rattle.std.proofs.lemmas.Slice.Eq.{bytes_eq-Decides}
use Rattle.reading.specs.Reading.{Text}
use Rattle.reading.proofs.Tools.{bound}
use Rattle.express_decl.specs.Tokens.{Token, Word, Quoted, Sign, Lexed, token, says, is_sign}
use Rattle.express_decl.specs.Steps.{some_token, next}
use Rattle.express_decl.specs.Lexical.{Gap, IsToken, Tokens}
use Rattle.express_decl.proofs.DeclTools.{lexed, given, same, value_of, left_of}
use Rattle.express_decl.proofs.LexicalLaws.{token_sound, token_complete, end_complete, next_shorter}

-- ---- which token it is

pub sign_is : (c : ℕ) (x : Token) → is_sign c x ≡ true → x ≡ Sign c
unfolding is_sign
sign_is c (Sign d) e = ap (λ (n : ℕ). Sign n) (eqb-true d c e)
sign_is c (Word w) e = absurd cc
sign_is c Quoted e = absurd cc

pub sign_says : (a : List ℕ) (c : ℕ) → says a (Sign c) ≡ false
unfolding says
sign_says a c = refl

pub word_no_sign : (c : ℕ) (w : List ℕ) → is_sign c (Word w) ≡ false
unfolding is_sign
word_no_sign c w = refl

-- a word that is said is no sign
pub said_no_sign : (a : List ℕ) (c : ℕ) (x : Token) → says a x ≡ true → is_sign c x ≡ false
unfolding says is_sign
said_no_sign a c (Word w) e = refl
said_no_sign a c Quoted e = absurd cc
said_no_sign a c (Sign d) e = absurd cc

-- nor another word
pub said_other : (a b : List ℕ) (x : Token) → says a x ≡ true → str_eq_ignore_ascii_case a b ≡ false → says b x ≡ false
unfolding says
said_other a b (Word w) e other =
    let same_word : str_to_ascii_lowercase w ≡ str_to_ascii_lowercase a = (bytes_eq-Decides (str_to_ascii_lowercase w) (str_to_ascii_lowercase a)).0 e in
    ap (λ (l : List ℕ). bytes_eq l (str_to_ascii_lowercase b)) same_word ∙ other
said_other a b Quoted e other = absurd cc
said_other a b (Sign c) e other = absurd cc

-- ---- the next token

some_is : (opened : Text) (o : Option Lexed) (t : Text) (y : Lexed × Text) → some_token opened o t ≡ Ok y → (o ≡ Some y.0) × (t ≡ y.1)
some_is opened None t y e = absurd cc
some_is opened (Some x) t y e =
    let one : (x, t) ≡ y = same e in
    (ap (λ (z : Lexed × Text). Some z.0) one, ap (λ (z : Lexed × Text). z.1) one)

-- the token that comes next, and where it ends
next_is_token : (opened t : Text) (y : Lexed × Text) → next opened t ≡ Ok y → (s : Text) × Gap t s × IsToken s y.0.token y.1
unfolding next
next_is_token opened t y e =
    let b = bound {r = token t} e in
    let s = some_is opened b.0.0 b.0.1 y b.2 in
    let read : token t ≡ Ok (Some y.0, y.1) = b.1 ∙ (ap (λ (o : Option Lexed). given o b.0.1) s.0 ∙ ap (λ (u : Text). given (Some y.0) u) s.1) in
    token_sound t y.0 y.1 read

pub next_sound : (opened t : Text) (y : Lexed × Text) {ys : List Token} → next opened t ≡ Ok y → Tokens y.1 ys → Tokens t (y.0.token ∷ ys)
next_sound opened t y e rest = let is = next_is_token opened t y e in Tokens.more is.1 is.2 rest

pub next_less : (opened t : Text) (y : Lexed × Text) → next opened t ≡ Ok y → length y.1 < length t
next_less opened t y e = let is = next_is_token opened t y e in next_shorter is.1 is.2

-- A step to the token x, behind which there are the tokens ys.
pub record Stepped (opened t : Text) (x : Token) (ys : List Token) : Type 0 where
  pub at : Text
  pub left : Text
  pub read : next opened t ≡ Ok (lexed x at, left)
  pub others : Tokens left ys
  pub less : length left < length t

next_of : {t s u : Text} {x : Token} → (opened : Text) → Gap t s → IsToken s x u → next opened t ≡ Ok (lexed x s, u)
unfolding next
next_of opened g is = rw (token_complete g is) refl

pub step : {t : Text} {x : Token} {ys : List Token} (opened : Text) → Tokens t (x ∷ ys) → Stepped opened t x ys
step opened (Tokens.more {s = s} {u = u} g is rest) = record { at = s; left = u; read = next_of opened g is; others = rest; less = next_shorter g is }

pub ended : {t : Text} → Tokens t [] → token t ≡ Ok (None, [])
ended (Tokens.none g) = end_complete g

-- ---- one list of tokens at most

same_next : {t s r u v : Text} {x y : Token} → Gap t s → IsToken s x u → Gap t r → IsToken r y v → (x ≡ y) × (u ≡ v)
same_next {s = s} {r = r} {u = u} {v = v} {x = x} {y = y} g is h js =
    let both : given (Some (lexed x s)) u ≡ given (Some (lexed y r)) v = sym (token_complete g is) ∙ token_complete h js in
    let one : Some (lexed x s) ≡ Some (lexed y r) = value_of both in
    let two : lexed x s ≡ lexed y r = cc in
    (ap (λ (z : Lexed). z.token) two, left_of both)

never_ends : {t s u : Text} {x : Token} → Gap t [] → Gap t s → IsToken s x u → ⊥
never_ends {s = s} {u = u} {x = x} g h is =
    let both : given {A = Option Lexed} None [] ≡ given (Some (lexed x s)) u = sym (end_complete g) ∙ token_complete h is in
    let one : None ≡ Some (lexed x s) = value_of both in absurd cc

pub one_list : (t : Text) (xs ys : List Token) → Tokens t xs → Tokens t ys → xs ≡ ys
one_list t _ _ (Tokens.none g) (Tokens.none h) = refl
one_list t _ _ (Tokens.none g) (Tokens.more h is rest) = absurd (never_ends g h is)
one_list t _ _ (Tokens.more h is rest) (Tokens.none g) = absurd (never_ends g h is)
one_list t _ _ (Tokens.more {u = u} {x = x} {xs = xs} g is rest) (Tokens.more {u = v} {x = y} {xs = ys} h js other) =
    let n = same_next g is h js in
    let more : xs ≡ ys = one_list u xs ys rest (subst (λ (w : Text). Tokens w ys) (sym n.1) other) in
    ap (λ (z : Token). z ∷ xs) n.0 ∙ ap (λ (zs : List Token). y ∷ zs) more
