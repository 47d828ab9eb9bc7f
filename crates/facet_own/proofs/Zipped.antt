-- Attributes with their values, place by place.
use Rattle.std.proofs.Common.{◌≡◌, ◌<◌, ◌≤◌, ◌+◌, ℕ, zero, suc, List, [], ◌∷◌, ◌++◌, Bool, true, false, ◌&&◌, ◌||◌, length, get_or, take, refl, sym, ap, ◌∙◌, arith}
use Rattle.std.specs.Prelude.{Option, Some, None, is_some}
use Rattle.std.specs.List.{zip, list_any}
use Rattle.std.proofs.lemmas.List.{take_more, take_all}
use Rattle.std.proofs.lemmas.List.Folds.{list_any-append}
use Rattle.std.proofs.lemmas.Slice.Zip.{length-zip, get_or-zip}
use Rattle.ifc_base.specs.declared.value.Value.{Value}
use Rattle.schema_table.specs.declared.slot.AttrSlot.{AttrSlot}
use Rattle.schema_table.specs.Schema.{Schema, declaration, upwards, attributes}
use Rattle.audit_model.specs.declared.facet.AttributeFacet.{AttributeFacet}
use Rattle.audit_model.specs.declared.verdict.Weighed.{Weighed}
use Rattle.audit_model.specs.Asked.{admits_if_asked}
use Rattle.facet_own.specs.Attributes.{is_asked_slot, slots_weighed}

zip_more : {A B : Type 0} (ns : List A) (vs : List B) (i : ℕ) (n : A) (v : B) → i < length ns → i < length vs → n ≡ get_or ns i n → v ≡ get_or vs i v → take (i + 1) (zip ns vs) ≡ take i (zip ns vs) ++ (n, v) ∷ []
zip_more ns vs i n v h k e l =
    take_more (zip ns vs) i (n, v) (omega (arith, length-zip ns vs))
    ∙ ap (λ p. take i (zip ns vs) ++ p ∷ []) (get_or-zip ns vs i (n, v) h k ∙ (λ j. (sym e j, sym l j)))

or_false : (b : Bool) → (b || false) ≡ b
or_false true = refl
or_false false = refl

any_more : {X : Type 0} (p : X → Bool) (xs : List X) (x : X) → list_any p (xs ++ x ∷ []) ≡ (list_any p xs || p x)
any_more p xs x = list_any-append p xs (x ∷ []) ∙ ap (λ b. list_any p xs || b) (or_false (p x))

-- one more place
pub weighed_more : (f : AttributeFacet) (ns : List AttrSlot) (vs : List Value) (i : ℕ) (n : AttrSlot) (v : Value) (all one both : Weighed)
    → i < length ns → i < length vs → n ≡ get_or ns i n → v ≡ get_or vs i v → all ≡ slots_weighed f (take i (zip ns vs))
    → one ≡ record { holds = is_asked_slot f (n, v) && admits_if_asked f.value v; subject = is_asked_slot f (n, v) } → both ≡ record { holds = all.holds || one.holds; subject = all.subject || one.subject }
    → both ≡ slots_weighed f (take (i + 1) (zip ns vs))
weighed_more f ns vs i n v all one both h k e l a o b =
    let ps : List (AttrSlot × Value) = take i (zip ns vs) in
    b
    ∙ ap (λ (z : Weighed). record { holds = z.holds || one.holds; subject = z.subject || one.subject }) a
    ∙ ap (λ (z : Weighed). record { holds = (slots_weighed f ps).holds || z.holds; subject = (slots_weighed f ps).subject || z.subject }) o
    ∙ (λ j. record { holds = sym (any_more (λ p. is_asked_slot f p && admits_if_asked f.value p.1) ps (n, v)) j; subject = sym (any_more (is_asked_slot f) ps (n, v)) j })
    ∙ ap (slots_weighed f) (sym (zip_more ns vs i n v h k e l))

-- no place is left
pub weighed_all : (f : AttributeFacet) (ns : List AttrSlot) (vs : List Value) (i : ℕ) (all : Weighed) → all ≡ slots_weighed f (take i (zip ns vs)) → length (zip ns vs) ≤ i → all ≡ slots_weighed f (zip ns vs)
weighed_all f ns vs i all a h = a ∙ ap (slots_weighed f) (take_all i (zip ns vs) h)

none_upwards : (s : Schema) (n : ℕ) → upwards s n None ≡ []
none_upwards s zero = refl
none_upwards s (suc n) = refl

not_there : {A : Type 0} (o : Option A) → false ≡ is_some o → o ≡ None
not_there None e = refl
not_there (Some x) e = absurd (cc)

undeclared : (s : Schema) (name : List ℕ) → declaration s name ≡ None → attributes s name ≡ []
unfolding attributes
undeclared s name e = rw (e, none_upwards s (length s)) refl

-- an entity that isn't declared has no attributes
pub undeclared_weighed : (s : Schema) (f : AttributeFacet) (name : List ℕ) (vs : List Value) → false ≡ is_some (declaration s name) → slots_weighed f [] ≡ slots_weighed f (zip (attributes s name) vs)
undeclared_weighed s f name vs e = ap (λ ns. slots_weighed f (zip ns vs)) (sym (undeclared s name (not_there (declaration s name) e)))
