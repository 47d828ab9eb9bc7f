-- Tokens of EXPRESS (ISO 10303-11, lexical elements), with the first refusal.
use Rattle.std.specs.Prelude.{ℕ, Bool, true, false, ◌&&◌, ◌||◌, List, [], ◌∷◌, ◌++◌, Option, Some, None, Ok, ◌==◌, if◌then◌else◌}
use Rattle.std.specs.Char.{is_ascii_alphanumeric, is_ascii_graphic}
use Rattle.std.specs.Str.{str_eq_ignore_ascii_case}
use Rattle.std.specs.Borrow.{Bor}
use Rattle.reading.specs.Codes.{codes_of}
use Rattle.reading.specs.Reading.{Text, Read, ◌>>=◌, refuse, all_turns}
use Rattle.reading.specs.Runs.{run}
use Rattle.express_decl.specs.declared.decl.DeclCause.{DeclCause}
use Rattle.express_decl.specs.declared.decl.DeclCause.TheVariants.{BadToken, Unclosed, Unexpected}
use Rattle.express_decl.specs.declared.remark.OpenRemarks as remarks
use Rattle.express_decl.specs.declared.token.Token as code_token
use Rattle.express_decl.specs.declared.token.Token.TheVariants as code
use Rattle.express_decl.specs.declared.token.Lexed as lexed

-- ---- blanks and remarks

unfoldable pub is_blank : ℕ → Bool
is_blank c = c == 32 || c == 9 || c == 10 || c == 13

-- the text begins with this code
unfoldable pub next_is : ℕ → Text → Bool
next_is wanted [] = false
next_is wanted (c ∷ t) = c == wanted

-- what follows the first code
unfoldable pub behind : Text → Text
behind [] = []
behind (c ∷ t) = t

-- what follows a tail remark: the rest behind the line feed that ends it, or the end of the input
unfoldable pub tail_remark : Text → Text
tail_remark [] = []
tail_remark (c ∷ t) = if c == 10 then t else tail_remark t

-- Embedded remarks that are open: where the innermost began, and where those around it did, from the inside.
pub record Remarks : Type 0 where
  pub innermost : Text
  pub outer : List Text

-- the places of remarks, the last of the list first
unfoldable pub places : List (Bor (List ℕ)) → List Text
places [] = []
places (p ∷ ps) = places ps ++ codes_of p.now ∷ []

abbrev pub remarks_view : remarks.OpenRemarks → Remarks
remarks_view r = record { innermost = codes_of r.innermost.now; outer = places r.outer.items }

-- behind the end of the innermost remark: whether another is still open, and which
abbrev pub remark_closed : Text → List Text → Bool × Remarks
remark_closed here [] = (false, record { innermost = here; outer = [] })
remark_closed here (p ∷ outer) = (true, record { innermost = p; outer = outer })

-- One piece within remarks: the beginning of a remark, the end of one, or any other code.
unfoldable pub remark_turn : Remarks → Text → Read DeclCause (Bool × Remarks)
remark_turn s [] = refuse Unclosed s.innermost
remark_turn s (c ∷ t) =
    if c == 40 && next_is 42 t then Ok ((true, record { innermost = c ∷ t; outer = s.innermost ∷ s.outer }), behind t)
    else if c == 42 && next_is 41 t then Ok (remark_closed s.innermost s.outer, behind t)
    else Ok ((true, s), t)

abbrev pub remark_end : Remarks × Text → Read DeclCause (Unit {0})
remark_end x = Ok (tt, x.1)

-- what follows the remark that began at `start`
unfoldable pub remark : Text → Text → Read DeclCause (Unit {0})
remark start t = all_turns Unclosed remark_turn (record { innermost = start; outer = [] }) t >>= remark_end

-- one blank or remark, if one comes next
unfoldable pub gap_turn : Unit {0} → Text → Read DeclCause (Bool × Unit {0})
gap_turn s [] = Ok ((false, tt), [])
gap_turn s (c ∷ t) =
    if is_blank c then Ok ((true, tt), t)
    else if c == 45 && next_is 45 t then Ok ((true, tt), tail_remark (behind t))
    else if c == 40 && next_is 42 t then (remark (c ∷ t) (behind t) >>= λ x. Ok ((true, tt), x.1))
    else Ok ((false, tt), c ∷ t)

unfoldable pub gap : Text → Read DeclCause (Unit {0})
gap t = all_turns Unexpected gap_turn tt t

-- ---- tokens

-- A word, a string or one other character.
pub data Token : Type 0 where
  Word : List ℕ → Token
  Quoted : Token
  Sign : ℕ → Token

pub record Lexed : Type 0 where
  pub token : Token
  pub at : Text

abbrev pub token_view : code_token.Token → Token
token_view (code.Word w) = Word w.now
token_view code.Quoted = Quoted
token_view (code.Sign c) = Sign c

abbrev pub lexed_view : lexed.Lexed → Lexed
lexed_view x = record { token = token_view x.token; at = codes_of x.at.now }

-- the codes of words: ASCII letters, digits and `_`
abbrev pub is_word : ℕ → Bool
is_word c = is_ascii_alphanumeric c || c == 95

-- What follows the string that began at `start`. The flag says that a quote came just before: another one is a quote
-- of the text, and anything else follows the string.
unfoldable pub quoted : Bool → Text → Text → Read DeclCause (Unit {0})
quoted false start [] = refuse Unclosed start
quoted false start (c ∷ t) = quoted (c == 39) start t
quoted true start [] = Ok (tt, [])
quoted true start (c ∷ t) = if c == 39 then quoted false start t else Ok (tt, c ∷ t)

-- the token that begins with c at `at`, before t
unfoldable pub token_of : Text → ℕ → Text → Read DeclCause Token
token_of at c t =
    if is_word c then Ok (Word (run is_word at).0, (run is_word at).1)
    else if c == 39 then (quoted false at t >>= λ x. Ok (Quoted, x.1))
    else if is_ascii_graphic c then Ok (Sign c, t)
    else refuse BadToken at

-- the token that comes next, none at the end of the input
unfoldable pub token_here : Text → Read DeclCause (Option Lexed)
token_here [] = Ok (None, [])
token_here (c ∷ t) = token_of (c ∷ t) c t >>= λ x. Ok (Some (record { token = x.0; at = c ∷ t }), x.1)

-- the same behind blanks and remarks
unfoldable pub token : Text → Read DeclCause (Option Lexed)
token t = gap t >>= λ x. token_here x.1

-- ---- what a token is

-- this word, in letters of either case
unfoldable pub says : List ℕ → Token → Bool
says wanted (Word w) = str_eq_ignore_ascii_case w wanted
says wanted Quoted = false
says wanted (Sign c) = false

-- this character
unfoldable pub is_sign : ℕ → Token → Bool
is_sign wanted (Sign c) = c == wanted
is_sign wanted (Word w) = false
is_sign wanted Quoted = false
