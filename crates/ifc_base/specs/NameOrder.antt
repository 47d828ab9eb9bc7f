-- The order of names: by the characters' codes, which is that of their bytes in UTF-8.
use Rattle.std.specs.Prelude.{◌≡◌, ℕ, List, encode_utf8_all}
use Rattle.std.specs.declared.cmp.Ordering.{Ordering}
use Rattle.std.specs.Ordering.{nat_cmp, on, is_eq}
use Rattle.std.specs.Bool.{one_answer}
use Rattle.std.specs.Cmp.Lexicographic.{slice_cmp, texts_ties}
use Rattle.std.specs.Str.{bytes_eq}
use Rattle.std.proofs.Common.{ap, ◌∙◌}
use Rattle.std.proofs.lemmas.Slice.Eq.{bytes_eq-Decides}
use Rattle.std.proofs.lemmas.Str.{encodes_same}

-- the order of two names, by their bytes in UTF-8
abbrev pub name_cmp : List ℕ → List ℕ → Ordering
name_cmp = on encode_utf8_all (slice_cmp nat_cmp)

-- names are equal exactly where neither comes first
pub name_ties : (x y : List ℕ) → bytes_eq x y ≡ is_eq (name_cmp x y)
name_ties x y =
    one_answer {P = x ≡ y} (bytes_eq x y) (bytes_eq (encode_utf8_all x) (encode_utf8_all y)) (bytes_eq-Decides x y) (
      λ e. encodes_same x y ((bytes_eq-Decides (encode_utf8_all x) (encode_utf8_all y)).0 e),
      λ e. (bytes_eq-Decides (encode_utf8_all x) (encode_utf8_all y)).1 (ap encode_utf8_all e),
    )
    ∙ texts_ties (encode_utf8_all x) (encode_utf8_all y)
