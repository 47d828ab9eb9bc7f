-- Texts of characters that take one byte each.
use Rattle.std.proofs.Common.{◌≡◌, ℕ, ◌<◌, true, List, [], ◌∷◌, ◌++◌, refl, ap, sym, ◌∙◌, arith}
use Rattle.std.specs.Prelude.{encode_utf8_all}
use Rattle.std.proofs.lemmas.Str.{encode_ascii, encodes-append, encodes_same}
use Rattle.std.specs.Bool.{one_answer}
use Rattle.std.specs.Str.{bytes_eq}
use Rattle.std.proofs.lemmas.Slice.Eq.{bytes_eq-Decides}
use Rattle.p21_read.specs.Numbers.{is_numeral}

pub numeral_small : (c : ℕ) → is_numeral c ≡ true → c < 128
numeral_small c is = grind arith

pub ascii_more : (s : List ℕ) (c : ℕ) → encode_utf8_all s ≡ s → c < 128 → encode_utf8_all (s ++ c ∷ []) ≡ s ++ c ∷ []
ascii_more s c same small = rw (encodes-append s (c ∷ []), same, encode_ascii c small) refl

pub ruleset ascii_laws = (numeral_small, ascii_more)

-- a name whose characters in UTF-8 are these bytes, which are ASCII, is these characters
pub same_ascii : (name text : List ℕ) → encode_utf8_all text ≡ text → bytes_eq (encode_utf8_all name) text ≡ bytes_eq name text
same_ascii name text ascii =
    one_answer {P = name ≡ text} (bytes_eq (encode_utf8_all name) text) (bytes_eq name text) (
      λ e. encodes_same name text ((bytes_eq-Decides (encode_utf8_all name) text).0 e ∙ sym ascii),
      λ e. (bytes_eq-Decides (encode_utf8_all name) text).1 (ap encode_utf8_all e ∙ ascii),
    ) (bytes_eq-Decides name text)

pub ruleset same_laws = (same_ascii)
