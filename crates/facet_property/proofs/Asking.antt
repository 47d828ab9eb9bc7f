-- Of which properties of a set a facet speaks.
use Rattle.std.proofs.Common.{◌≡◌, ℕ, List, [], ◌∷◌, ◌++◌, true, false, ◌&&◌, cond, map, refl, sym, ap, ◌∙◌}
use Rattle.std.specs.Prelude.{Option, Some, None, filter_map, codes}
use Rattle.std.specs.List.{filter, flat_map}
use Rattle.std.specs.Option.{option_map, option_map_or, option_and_then, option_to_list}
use Rattle.ifc_base.specs.declared.value.Instance.{Instance}
use Rattle.schema_table.specs.Schema.{Schema}
use Rattle.schema_table.specs.Attributes.{text}
use Rattle.restrictions.specs.Admitting.{admits_text}
use Rattle.audit_model.specs.Paths.{SeenSet}
use Rattle.audit_model.specs.declared.facet.PropertyFacet.{PropertyFacet}
use Rattle.audit_model.specs.Properties.{Property, set_name, named_property}
use Rattle.facet_property.specs.Held.{asked_under, is_asked, names_asked}
use Rattle.facet_property.proofs.Three.{chosen, filter_gathered, gathers_agree}

module _ (s : Schema) (f : PropertyFacet) (n : List ℕ) where
  abbrev named : Option Instance → List Property
  named o = option_to_list (option_and_then (named_property s n) o)

  abbrev property : Instance → List ℕ → Property
  property x a = record { set_name = n; name = a; itself = x }

  asked_named : (m : Option (List ℕ)) (x : Instance) → admits_text f.set n ≡ true
      → filter (is_asked f) (option_to_list (option_map (property x) m)) ≡ filter (λ (p : Property). admits_text f.base_name p.name) (option_to_list (option_map (property x) m))
  asked_named None x e = refl
  asked_named (Some a) x e = ap (λ b. cond (b && admits_text f.base_name a) (property x a ∷ []) []) e

  asked_one : (o : Option Instance) → admits_text f.set n ≡ true → filter (is_asked f) (named o) ≡ asked_under s f n o
  asked_one None e = refl
  asked_one (Some x) e = asked_named (text s x (codes "Name")) x e

  unasked_named : (m : Option (List ℕ)) (x : Instance) → admits_text f.set n ≡ false → filter (is_asked f) (option_to_list (option_map (property x) m)) ≡ []
  unasked_named None x e = refl
  unasked_named (Some a) x e = ap (λ b. cond (b && admits_text f.base_name a) (property x a ∷ []) []) e

  unasked_one : (o : Option Instance) → admits_text f.set n ≡ false → filter (is_asked f) (named o) ≡ []
  unasked_one None e = refl
  unasked_one (Some x) e = unasked_named (text s x (codes "Name")) x e

  module _ (look : ℕ → Option Instance) where
    spread : (ids : List ℕ) → filter (is_asked f) (filter_map (option_and_then (named_property s n)) (map look ids)) ≡ flat_map (λ i. filter (is_asked f) (named (look i))) ids
    spread ids = ap (filter (is_asked f)) (chosen (option_and_then (named_property s n)) (map look ids)) ∙ filter_gathered (is_asked f) named look ids

    none_all : (ids : List ℕ) → admits_text f.set n ≡ false → flat_map (λ i. filter (is_asked f) (named (look i))) ids ≡ []
    none_all [] e = refl
    none_all (i ∷ is) e = ap (λ ps. ps ++ flat_map (λ j. filter (is_asked f) (named (look j))) is) (unasked_one (look i) e) ∙ none_all is e

    -- of a set with an admitted name, those with admitted names
    pub asked_in : (m : Option (List ℕ)) (ids : List ℕ) → m ≡ Some n → admits_text f.set n ≡ true
        → filter (is_asked f) (option_map_or (λ set. filter_map (option_and_then (named_property s set)) (map look ids)) m []) ≡ flat_map (λ i. asked_under s f n (look i)) ids
    asked_in m ids h e =
        ap (λ o. filter (is_asked f) (option_map_or (λ set. filter_map (option_and_then (named_property s set)) (map look ids)) o [])) h
        ∙ spread ids ∙ gathers_agree (λ i. filter (is_asked f) (named (look i))) (λ i. asked_under s f n (look i)) (λ i. asked_one (look i) e) ids

    -- of a set with another name, none
    pub unasked_in : (m : Option (List ℕ)) (ids : List ℕ) → m ≡ Some n → admits_text f.set n ≡ false
        → filter (is_asked f) (option_map_or (λ set. filter_map (option_and_then (named_property s set)) (map look ids)) m []) ≡ []
    unasked_in m ids h e =
        ap (λ o. filter (is_asked f) (option_map_or (λ set. filter_map (option_and_then (named_property s set)) (map look ids)) o [])) h ∙ spread ids ∙ none_all ids e

-- the names of sets, one set after another
pub names_spread : (s : Schema) (f : PropertyFacet) (zs : List SeenSet) → filter (admits_text f.set) (flat_map (λ z. option_to_list (set_name s z)) zs) ≡ names_asked s f zs
names_spread s f zs = ap (filter (admits_text f.set)) (sym (chosen (set_name s) zs))
