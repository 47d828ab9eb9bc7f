-- Tokens, with where they begin (ISO 10303-21, tokens).
use Rattle.std.specs.Prelude.{ℕ, false, ◌||◌, [], ◌∷◌, Ok, ◌==◌, if◌then◌else◌}
use Rattle.std.specs.Char.{is_ascii_digit}
use Rattle.reading.specs.Codes.{codes_of, is_mark}
use Rattle.reading.specs.Reading.{Text, Read, ◌>>=◌, refuse}
use Rattle.reading.specs.Runs.{begins}
use Rattle.p21_read.specs.declared.fault.P21Cause.{P21Cause}
use Rattle.p21_read.specs.declared.fault.P21Cause.TheVariants.{BadToken}
use Rattle.p21_read.specs.declared.number.Number.{Number}
use Rattle.p21_read.specs.declared.word.Word.{Word}
use Rattle.p21_read.specs.declared.token.Token.{Token}
use Rattle.p21_read.specs.declared.token.Token.TheVariants as k
use Rattle.p21_read.specs.declared.token.Lexed as code
use Rattle.p21_read.specs.Gap.{gap}
use Rattle.p21_read.specs.Quoted.{text}
use Rattle.p21_read.specs.Words.{is_letter, with_letter, no_word, word, enumer, binary}
use Rattle.p21_read.specs.Numbers.{with_digit, no_digits, digits, real, number, id}

-- a token, and the text from where it begins
pub record Lexed : Type 0 where
  pub token : Token
  pub at : Text

abbrev pub lexed_view : code.Lexed → Lexed
lexed_view x = record { token = x.token; at = codes_of x.at.now }

abbrev pub as_number : Number × Text → Read P21Cause Token
as_number n = Ok (k.Number n.0, n.1)

abbrev pub as_word : Word × Text → Read P21Cause Token
as_word w = Ok (k.Word w.0, w.1)

-- behind a point: a digit goes on with a real, all else with the name of an enumeration value
unfoldable pub pointed : Text → Text → Read P21Cause Token
pointed at t = if begins is_ascii_digit t then (real at >>= as_number) else (enumer at t >>= λ x. Ok (k.Enumer x.0, x.1))

-- the number or the word that begins with the code c at `at`, before t
unfoldable pub word_or_number : Text → ℕ → Text → Read P21Cause Token
word_or_number at c t =
    if c == 43 || c == 45 then (number at (c == 45) (digits no_digits t) >>= as_number)
    else if is_ascii_digit c then (number at false (digits (with_digit no_digits c) t) >>= as_number)
    else if is_letter c then as_word (word (with_letter no_word c) t)
    else refuse BadToken at

-- the token that begins with the code c at `at`, before t
unfoldable pub token_of : Text → ℕ → Text → Read P21Cause Token
token_of at c t =
    if is_mark c then refuse BadToken at
    else if c == 36 then Ok (k.Dollar, t)
    else if c == 42 then Ok (k.Star, t)
    else if c == 40 then Ok (k.Open, t)
    else if c == 41 then Ok (k.Close, t)
    else if c == 44 then Ok (k.Comma, t)
    else if c == 61 then Ok (k.Equals, t)
    else if c == 59 then Ok (k.Semicolon, t)
    else if c == 39 then (text at t >>= λ x. Ok (k.Quoted x.0, x.1))
    else if c == 34 then (binary at t >>= λ x. Ok (k.Binary x.0, x.1))
    else if c == 35 then (id at (digits no_digits t) >>= λ x. Ok (k.Id x.0, x.1))
    else if c == 46 then pointed at t
    else word_or_number at c t

-- the token at the front, or the end
unfoldable pub token_here : Text → Read P21Cause Token
token_here [] = Ok (k.End, [])
token_here (c ∷ t) = token_of (c ∷ t) c t

-- the next token
unfoldable pub token : Text → Read P21Cause Lexed
token t = do
  here ← gap t
  found ← token_here here.1
  Ok (record { token = found.0; at = here.1 }, found.1)
