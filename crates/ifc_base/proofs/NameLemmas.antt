-- The characters of a text: of one that has one more character, and of two that are compared.
use Rattle.std.proofs.Common.{◌≡◌, ℕ, List, [], ◌∷◌, ◌++◌, ap, sym, ◌∙◌, encode_utf8, encode_utf8_all, arith}
use Rattle.std.specs.Str.{chars, IsUtf8, bytes_eq}
use Rattle.std.specs.Char.{IsScalar}
use Rattle.std.specs.Bool.{one_answer}
use Rattle.std.proofs.lemmas.Slice.Eq.{bytes_eq-Decides}
use Rattle.std.proofs.lemmas.Str.{chars-append, chars_past_char, chars-nil, IsUtf8-encode, encodes-chars}
use Rattle.std.proofs.lemmas.Grind.{common_steps}

-- a text with one more character behind it has that character behind its own
pub chars_push : (bs : List ℕ) (c : ℕ) → IsUtf8 bs → IsScalar c → chars (bs ++ encode_utf8 c) ≡ chars bs ++ c ∷ []
chars_push bs c u s =
    chars-append bs (encode_utf8 c) u
    ∙ ap (λ cs. chars bs ++ cs) (chars_past_char (encode_utf8 c) [] c (IsUtf8-encode c s) (grind (arith, common_steps)) ∙ ap (λ cs. c ∷ cs) chars-nil)

-- two texts have the same bytes exactly where they have the same characters
pub bytes_eq-chars : (bs ds : List ℕ) → IsUtf8 bs → IsUtf8 ds → bytes_eq bs ds ≡ bytes_eq (chars bs) (chars ds)
bytes_eq-chars bs ds u w =
    one_answer {P = bs ≡ ds} (bytes_eq bs ds) (bytes_eq (chars bs) (chars ds)) (bytes_eq-Decides bs ds) (
      λ e. sym (encodes-chars bs u) ∙ ap encode_utf8_all ((bytes_eq-Decides (chars bs) (chars ds)).0 e) ∙ encodes-chars ds w,
      λ e. (bytes_eq-Decides (chars bs) (chars ds)).1 (ap chars e),
    )
