-- The relations of a schema.
use Rattle.std.proofs.Common.{◌≡◌, ℕ, ◌+◌, ◌<◌, List, [], ◌∷◌, ◌++◌, take, length, get_or, filter_map, Option, ap, ◌∙◌}
use Rattle.std.specs.List.{cons_option}
use Rattle.std.proofs.lemmas.List.{take_more}
use Rattle.std.proofs.lemmas.List.Elements.{filter_map-append}

pub mapped_more : {X Y : Type 0} (p : X → Option Y) (xs : List X) (i : ℕ) (d : X) → i < length xs → filter_map p (take (i + 1) xs) ≡ filter_map p (take i xs) ++ cons_option (p (get_or xs i d)) []
mapped_more p xs i d h = ap (filter_map p) (take_more xs i d h) ∙ filter_map-append p (take i xs) (get_or xs i d ∷ [])
