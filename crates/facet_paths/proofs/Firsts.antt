-- The first of some texts that is there.
use Rattle.std.proofs.Common.{◌≡◌, ◌<◌, ◌+◌, suc, ℕ, List, [], ◌∷◌, ◌++◌, true, false, cond, Option, Some, None, map, length, get_or, take, drop, refl, sym, ap, ◌∙◌, drop-cons}
use Rattle.std.proofs.lemmas.List.{take_more, map-append}
use Rattle.std.proofs.lemmas.List.{take-append-drop}
use Rattle.std.specs.Prelude.{codes}
use Rattle.std.specs.Option.{unwrap_or}
use Rattle.std.specs.Str.{bytes_eq}
use Rattle.std.proofs.lemmas.Slice.Eq.{bytes_eq-Decides}
use Rattle.schema_table.specs.Schema.{Schema}
use Rattle.schema_table.specs.Attributes.{text}
use Rattle.ifc_base.specs.declared.value.Instance.{Instance}
use Rattle.audit_model.specs.Facets.{first_there, predefined_named, user_defined}

none_then : (ts us : List (Option (List ℕ))) → first_there ts ≡ None → first_there (ts ++ us) ≡ first_there us
none_then [] us h = refl
none_then (Some t ∷ ts) us h = absurd (cc)
none_then (None ∷ ts) us h = none_then ts us h

split_at : {X : Type 0} (xs : List X) (i : ℕ) (x : X) → i < length xs → x ≡ get_or xs i x → xs ≡ take i xs ++ x ∷ drop (suc i) xs
split_at xs i x h e = sym (take-append-drop i xs) ∙ ap (λ ys. take i xs ++ ys) (drop-cons xs i x h ∙ ap (λ y. y ∷ drop (suc i) xs) (sym e))

some_first : (o : Option (List ℕ)) (os : List (Option (List ℕ))) (t : List ℕ) → o ≡ Some t → first_there (o ∷ os) ≡ Some t
some_first (Some u) os t h = h
some_first None os t h = absurd (cc)

module _ {X : Type 0} (f : X → Option (List ℕ)) where
  pub first_found : (xs : List X) (i : ℕ) (x : X) (t : List ℕ) → i < length xs → x ≡ get_or xs i x → first_there (map f (take i xs)) ≡ None → f x ≡ Some t → first_there (map f xs) ≡ Some t
  first_found xs i x t h e k l =
      ap (λ ys. first_there (map f ys)) (split_at xs i x h e)
      ∙ ap first_there (map-append f (take i xs) (x ∷ drop (suc i) xs))
      ∙ none_then (map f (take i xs)) (f x ∷ map f (drop (suc i) xs)) k
      ∙ some_first (f x) (map f (drop (suc i) xs)) t l

  pub none_more : (xs : List X) (i : ℕ) (x : X) → i < length xs → x ≡ get_or xs i x → first_there (map f (take i xs)) ≡ None → f x ≡ None → first_there (map f (take (i + 1) xs)) ≡ None
  none_more xs i x h e k l =
      ap (λ ys. first_there (map f ys)) (take_more xs i x h ∙ ap (λ y. take i xs ++ y ∷ []) (sym e))
      ∙ ap first_there (map-append f (take i xs) (x ∷ []))
      ∙ none_then (map f (take i xs)) (f x ∷ []) k
      ∙ ap (λ o. first_there (o ∷ [])) l

module _ (s : Schema) (x : Instance) (n : List ℕ) where
  pub plain_name : bytes_eq n (codes "NOTDEFINED") ≡ false → bytes_eq n (codes "USERDEFINED") ≡ false → predefined_named s x n ≡ Some n
  plain_name e h = ap (λ b. cond b None (cond (bytes_eq n (codes "USERDEFINED")) (Some (user_defined s x)) (Some n))) e ∙ ap (λ b. cond b (Some (user_defined s x)) (Some n)) h

  abbrev texts : List (Option (List ℕ))
  texts = text s x (codes "ObjectType") ∷ text s x (codes "ElementType") ∷ text s x (codes "ProcessType") ∷ []

  pub user_name : (t : List ℕ) → bytes_eq n (codes "NOTDEFINED") ≡ false → bytes_eq n (codes "USERDEFINED") ≡ true → t ≡ unwrap_or (first_there texts) n → predefined_named s x n ≡ Some t
  user_name t e h k =
      ap (λ b. cond b None (cond (bytes_eq n (codes "USERDEFINED")) (Some (user_defined s x)) (Some n))) e
      ∙ ap (λ b. cond b (Some (user_defined s x)) (Some n)) h
      ∙ ap (λ w. Some (unwrap_or (first_there texts) w)) (sym ((bytes_eq-Decides n (codes "USERDEFINED")).0 h))
      ∙ ap (λ w. Some w) (sym k)
