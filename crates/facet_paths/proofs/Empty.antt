-- Texts of names.
use Rattle.std.proofs.Common.{◌≡◌, ◌==◌, ℕ, List, [], ◌∷◌, length, Bool, ap, ◌∙◌, encode_utf8_all, arith}
use Rattle.std.specs.Str.{chars}
use Rattle.std.proofs.lemmas.Str.{chars-nil}
use Rattle.std.proofs.lemmas.Bool.Decides.{nat_tests}

same_empty : (t bs : List ℕ) → bs ≡ encode_utf8_all t → chars bs ≡ t → (length bs == 0) ≡ (length t == 0)
same_empty [] bs e h = ap (λ xs. length xs == 0) e
same_empty (c ∷ cs) [] e h = absurd (let k = chars-nil in cc)
same_empty (c ∷ cs) (b ∷ bs) e h = grind (arith, nat_tests)

-- a name is empty exactly where its text has no bytes
pub empty_text : (t bs : List ℕ) (r : Bool) → bs ≡ encode_utf8_all t → chars bs ≡ t → r ≡ (length bs == 0) → r ≡ (length t == 0)
empty_text t bs r e h k = k ∙ same_empty t bs e h
