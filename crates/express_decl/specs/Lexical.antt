-- Which tokens a text has, by cases (ISO 10303-11, fundamental elements). In each relation the last text is what follows.
use Rattle.std.specs.Prelude.{◌≡◌, ℕ, Bool, true, false, ◌&&◌, ◌||◌, List, [], ◌∷◌, ◌==◌}
use Rattle.std.specs.Char.{is_ascii_graphic}
use Rattle.reading.specs.Reading.{Text}
use Rattle.reading.specs.Runs.{begins, IsRun}
use Rattle.express_decl.specs.Tokens.{Token, Word, Quoted, Sign, is_blank, is_word, next_is}

-- ---- remarks (7.1.6)

-- `(*`
abbrev pub opens_remark : ℕ → Text → Bool
opens_remark c t = c == 40 && next_is 42 t

-- `*)`
abbrev pub closes_remark : ℕ → Text → Bool
closes_remark c t = c == 42 && next_is 41 t

-- `--`
abbrev pub opens_tail : ℕ → Text → Bool
opens_tail c t = c == 45 && next_is 45 t

-- An embedded remark behind its `(*`, up to the `*)` that closes it. Embedded remarks within it nest.
pub data Remark : Text → Text → Type 0 where
  closed : {t : Text} → Remark (42 ∷ 41 ∷ t) t
  nested : {t u v : Text} → Remark t u → Remark u v → Remark (40 ∷ 42 ∷ t) v
  other : {c : ℕ} {t u : Text} → opens_remark c t ≡ false → closes_remark c t ≡ false → Remark t u → Remark (c ∷ t) u

-- A tail remark behind its `--`, up to the line feed that ends it, or to the end of the text.
pub data TailRemark : Text → Text → Type 0 where
  end : TailRemark [] []
  line_feed : {t : Text} → TailRemark (10 ∷ t) t
  other : {c : ℕ} {t u : Text} → (c == 10) ≡ false → TailRemark t u → TailRemark (c ∷ t) u

-- a blank or a remark begins here
abbrev pub begins_gap : Text → Bool
begins_gap [] = false
begins_gap (c ∷ t) = is_blank c || (opens_tail c t || opens_remark c t)

-- blanks and remarks, and no more of them
pub data Gap : Text → Text → Type 0 where
  none : {t : Text} → begins_gap t ≡ false → Gap t t
  blank : {c : ℕ} {t u : Text} → is_blank c ≡ true → Gap t u → Gap (c ∷ t) u
  tail : {t u v : Text} → TailRemark t u → Gap u v → Gap (45 ∷ 45 ∷ t) v
  embedded : {t u v : Text} → Remark t u → Gap u v → Gap (40 ∷ 42 ∷ t) v

-- ---- tokens

-- A string behind its first quote (7.5.4). Two quotes are one quote of the text, and a quote alone ends it.
pub data String : Text → Text → Type 0 where
  quotes : {t u : Text} → String t u → String (39 ∷ 39 ∷ t) u
  other : {c : ℕ} {t u : Text} → (c == 39) ≡ false → String t u → String (c ∷ t) u
  end : {t : Text} → next_is 39 t ≡ false → String (39 ∷ t) t

-- A token: a word, which is a longest run of ASCII letters, digits and `_` (7.2, 7.4); a string; or another character that is seen (7.3).
pub data IsToken : Text → Token → Text → Type 0 where
  word : {t w u : Text} → begins is_word t ≡ true → IsRun is_word t w u → IsToken t (Word w) u
  string : {t u : Text} → String t u → IsToken (39 ∷ t) Quoted u
  sign : {c : ℕ} {t : Text} → is_word c ≡ false → (c == 39) ≡ false → is_ascii_graphic c ≡ true → IsToken (c ∷ t) (Sign c) t

-- The tokens of a text, one after the other, with nothing around them but blanks and remarks.
pub data Tokens : Text → List Token → Type 0 where
  none : {t : Text} → Gap t [] → Tokens t []
  more : {t s u : Text} {x : Token} {xs : List Token} → Gap t s → IsToken s x u → Tokens u xs → Tokens t (x ∷ xs)
