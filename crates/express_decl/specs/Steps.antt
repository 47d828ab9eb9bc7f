-- Steps that the grammar of declarations is made of. Each stands within a construct that began at `opened`, which is what is
-- unclosed where the input ends.
use Rattle.std.specs.Prelude.{ℕ, zero, suc, ◌+◌, Bool, true, false, not, List, Option, Some, None, Ok, if◌then◌else◌}
use Rattle.reading.specs.Reading.{Text, Read, ◌>>=◌, refuse, all_turns}
use Rattle.express_decl.specs.declared.decl.DeclCause.{DeclCause}
use Rattle.express_decl.specs.declared.decl.DeclCause.TheVariants.{Unclosed, Unexpected}
use Rattle.express_decl.specs.Tokens.{Token, Word, Quoted, Sign, Lexed, token, says, is_sign}

abbrev pub some_token : Text → Option Lexed → Text → Read DeclCause Lexed
some_token opened None t = refuse Unclosed opened
some_token opened (Some x) t = Ok (x, t)

-- the next token
unfoldable pub next : Text → Text → Read DeclCause Lexed
next opened t = token t >>= λ x. some_token opened x.0 x.1

abbrev pub word_of : Text → Token → Text → Read DeclCause (List ℕ)
word_of at (Word w) t = Ok (w, t)
word_of at Quoted t = refuse Unexpected at
word_of at (Sign c) t = refuse Unexpected at

-- the next token, which must be a word
unfoldable pub word : Text → Text → Read DeclCause (List ℕ)
word opened t = next opened t >>= λ x. word_of x.0.at x.0.token x.1

-- where the next token begins, which must be this word
unfoldable pub keyword : List ℕ → Text → Text → Read DeclCause Text
keyword wanted opened t = next opened t >>= λ x. if says wanted x.0.token then Ok (x.0.at, x.1) else refuse Unexpected x.0.at

-- this character, which must come next
unfoldable pub sign : ℕ → Text → Text → Read DeclCause (Unit {0})
sign wanted opened t = next opened t >>= λ x. if is_sign wanted x.0.token then Ok (tt, x.1) else refuse Unexpected x.0.at

-- one token of those up to this word
abbrev pub to_word_turn : List ℕ → Text → Unit {0} → Text → Read DeclCause (Bool × Unit {0})
to_word_turn wanted opened s t = next opened t >>= λ x. Ok ((not (says wanted x.0.token), tt), x.1)

-- tokens up to this word
unfoldable pub to_word : List ℕ → Text → Text → Read DeclCause (Unit {0})
to_word wanted opened t = all_turns Unexpected (to_word_turn wanted opened) tt t

-- one token of those up to a semicolon
abbrev pub to_semicolon_turn : Text → Unit {0} → Text → Read DeclCause (Bool × Unit {0})
to_semicolon_turn opened s t = next opened t >>= λ x. Ok ((not (is_sign 59 x.0.token), tt), x.1)

-- tokens up to a semicolon
unfoldable pub to_semicolon : Text → Text → Read DeclCause (Unit {0})
to_semicolon opened t = all_turns Unexpected (to_semicolon_turn opened) tt t

-- a type, of one or more tokens, up to a semicolon
unfoldable pub type_text : Text → Text → Read DeclCause (Unit {0})
type_text opened t = next opened t >>= λ x. if is_sign 59 x.0.token then refuse Unexpected x.0.at else to_semicolon opened x.1

-- behind a closing parenthesis, where so many were open around it: whether one still is, and how many around that one
abbrev pub parenthesis_closed : ℕ → Bool × ℕ
parenthesis_closed zero = (false, 0)
parenthesis_closed (suc around) = (true, around)

-- one token within parentheses
unfoldable pub parenthesis_turn : Text → ℕ → Text → Read DeclCause (Bool × ℕ)
parenthesis_turn opened around t =
    next opened t >>= λ x.
    if is_sign 40 x.0.token then Ok ((true, around + 1), x.1)
    else if is_sign 41 x.0.token then Ok (parenthesis_closed around, x.1)
    else Ok ((true, around), x.1)

abbrev pub parenthesis_end : ℕ × Text → Read DeclCause (Unit {0})
parenthesis_end x = Ok (tt, x.1)

-- tokens up to the parenthesis that closes the one before them
unfoldable pub in_parentheses : Text → Text → Read DeclCause (Unit {0})
in_parentheses opened t = all_turns Unexpected (parenthesis_turn opened) 0 t >>= parenthesis_end
