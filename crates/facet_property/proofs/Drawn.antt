-- The values of a property, by its shape.
use Rattle.std.proofs.Common.{◌≡◌, ℕ, List, [], ◌∷◌, Bool, true, false, not, ◌&&◌, ◌||◌, cond, nat_lt, length, map, refl, sym, ap, ◌∙◌}
use Rattle.std.specs.Prelude.{Option, Some, None, find, bytes_eq}
use Rattle.std.specs.List.{list_any, list_all, filter, flat_map}
use Rattle.std.specs.Option.{option_map_or, unwrap_or}
use Rattle.ifc_base.specs.declared.value.Instance.{Instance}
use Rattle.ifc_base.specs.declared.value.Value.{Value}
use Rattle.schema_table.specs.Schema.{Schema, is_kind_of}
use Rattle.schema_table.specs.Values.{is_set}
use Rattle.restrictions.specs.declared.condition.Condition.{Condition}
use Rattle.restrictions.specs.Admitting.{admits}
use Rattle.audit_model.specs.declared.facet.PropertyFacet.{PropertyFacet}
use Rattle.audit_model.specs.Properties.{Property, PropertyKind, PropertyValue, property_kinds, drawn_from, sources_of, values, has_value, has_type}
use Rattle.facet_property.specs.declared.shape.Shape.{Shape}
use Rattle.facet_property.specs.declared.shape.Shape.TheVariants as shape
use Rattle.facet_property.specs.declared.judging.Judged.{Judged}
use Rattle.facet_property.specs.Shapes.{all_shapes, shape_entity, shape_sources, shape_type, shape_of, values_at, shape_values, type_by, is_typed_so}
use Rattle.facet_property.specs.Held.{judged}
use Rattle.facet_property.proofs.Three.{any_filtered, all_filtered, left_filtered, any_mapped, all_mapped, gathered_mapped}

-- Its kind.

abbrev kind_of : Shape → PropertyKind
kind_of h = record { entity = shape_entity h; sources = shape_sources h }

module _ (s : Schema) (n : List ℕ) where
  find_step : (b : Bool) (h : Shape) (o : Option PropertyKind) (q : Option Shape) → option_map_or (λ (k : PropertyKind). k.sources) o [] ≡ shape_sources (unwrap_or q shape.Other)
      → option_map_or (λ (k : PropertyKind). k.sources) (cond b (Some (kind_of h)) o) [] ≡ shape_sources (unwrap_or (cond b (Some h) q) shape.Other)
  find_step true h o q e = refl
  find_step false h o q e = e

  sources_among : (hs : List Shape) → option_map_or (λ (k : PropertyKind). k.sources) (find (λ (k : PropertyKind). is_kind_of s n k.entity) (map kind_of hs)) [] ≡ shape_sources (unwrap_or (find (λ h. is_kind_of s n (shape_entity h)) hs) shape.Other)
  sources_among [] = refl
  sources_among (h ∷ hs) = find_step (is_kind_of s n (shape_entity h)) h _ _ (sources_among hs)

  kinds_are : property_kinds ≡ map kind_of all_shapes
  kinds_are = refl

module _ (s : Schema) (x : Instance) where
  sources_are : sources_of s x ≡ shape_sources (shape_of s x.entity)
  unfolding shape_of
  sources_are = sources_among s x.entity all_shapes

  -- with its data type
  abbrev with_type : Shape → Value → PropertyValue
  with_type h v = record { value = v; of_type = type_by (shape_type h) v }

  drawn_is : (h : Shape) → flat_map (drawn_from s x) (shape_sources h) ≡ map (with_type h) (shape_values s h x)
  drawn_is shape.Single = gathered_mapped (with_type shape.Single) (values_at s x) (shape_sources shape.Single)
  drawn_is shape.Enumerated = gathered_mapped (with_type shape.Enumerated) (values_at s x) (shape_sources shape.Enumerated)
  drawn_is shape.List = gathered_mapped (with_type shape.List) (values_at s x) (shape_sources shape.List)
  drawn_is shape.Bounded = gathered_mapped (with_type shape.Bounded) (values_at s x) (shape_sources shape.Bounded)
  drawn_is shape.Table = gathered_mapped (with_type shape.Table) (values_at s x) (shape_sources shape.Table)
  drawn_is shape.Length = gathered_mapped (with_type shape.Length) (values_at s x) (shape_sources shape.Length)
  drawn_is shape.Area = gathered_mapped (with_type shape.Area) (values_at s x) (shape_sources shape.Area)
  drawn_is shape.Volume = gathered_mapped (with_type shape.Volume) (values_at s x) (shape_sources shape.Volume)
  drawn_is shape.Count = gathered_mapped (with_type shape.Count) (values_at s x) (shape_sources shape.Count)
  drawn_is shape.Weight = gathered_mapped (with_type shape.Weight) (values_at s x) (shape_sources shape.Weight)
  drawn_is shape.Time = gathered_mapped (with_type shape.Time) (values_at s x) (shape_sources shape.Time)
  drawn_is shape.Other = refl

  abbrev stood : List Value
  stood = shape_values s (shape_of s x.entity) x

  abbrev typed : Value → PropertyValue
  typed v = with_type (shape_of s x.entity) v

  abbrev is_set_here : PropertyValue → Bool
  is_set_here w = is_set w.value

  values_are : values s x ≡ filter is_set_here (map typed stood)
  values_are = ap (λ zs. filter is_set_here (flat_map (drawn_from s x) zs)) sources_are ∙ ap (filter is_set_here) (drawn_is (shape_of s x.entity))

  some_value : nat_lt 0 (length (values s x)) ≡ list_any is_set stood
  some_value = ap (λ ws. nat_lt 0 (length ws)) values_are ∙ left_filtered is_set_here (map typed stood) ∙ any_mapped is_set_here typed stood

  all_values : (p : PropertyValue → Bool) → list_all p (values s x) ≡ list_all (λ v. not (is_set v) || p (typed v)) stood
  all_values p = ap (list_all p) values_are ∙ all_filtered is_set_here p (map typed stood) ∙ all_mapped (λ w. not (is_set w.value) || p w) typed stood

  any_value : (p : PropertyValue → Bool) → list_any p (values s x) ≡ list_any (λ v. is_set v && p (typed v)) stood
  any_value p = ap (list_any p) values_are ∙ any_filtered is_set_here p (map typed stood) ∙ any_mapped (λ w. is_set w.value && p w) typed stood

module _ (s : Schema) (p : Property) where
  abbrev h : Shape
  h = shape_of s p.itself.entity

  abbrev are_typed : List Value → List ℕ → Bool
  are_typed vs name = list_any is_set vs && list_all (λ v. not (is_set v) || is_typed_so name h v) vs

  abbrev is_one_admitted : List Value → Condition → Bool
  is_one_admitted vs c = list_any (λ v. is_set v && admits c v) vs

  type_is : (name : List ℕ) → are_typed (stood s p.itself) name ≡ has_type s p name
  type_is name = sym (
      ap (λ b. b && list_all (λ (w : PropertyValue). option_map_or (bytes_eq name) w.of_type false) (values s p.itself)) (some_value s p.itself)
      ∙ ap (λ b. list_any is_set (stood s p.itself) && b) (all_values s p.itself (λ w. option_map_or (bytes_eq name) w.of_type false))
      )

  kind_asked : (o : Option (List ℕ)) → option_map_or (are_typed (stood s p.itself)) o true ≡ option_map_or (has_type s p) o true
  kind_asked None = refl
  kind_asked (Some name) = type_is name

  value_asked : (o : Option Condition) → option_map_or (is_one_admitted (stood s p.itself)) o true ≡ option_map_or (λ c. list_any (λ (w : PropertyValue). admits c w.value) (values s p.itself)) o true
  value_asked None = refl
  value_asked (Some c) = sym (any_value s p.itself (λ w. admits c w.value))

  pub judged_made : (f : PropertyFacet) (vs : List Value) (a b c : Bool) → vs ≡ stood s p.itself → a ≡ list_any is_set vs → b ≡ option_map_or (are_typed vs) f.kind true → c ≡ option_map_or (is_one_admitted vs) f.value true
      → (let j : Judged = record { has_value = a; is_good = b && c } in j) ≡ judged s f p
  judged_made f vs a b c e i j k =
      let one : a ≡ has_value s p = i ∙ ap (list_any is_set) e ∙ sym (some_value s p.itself) in
      let two : b ≡ option_map_or (has_type s p) f.kind true = j ∙ ap (λ zs. option_map_or (are_typed zs) f.kind true) e ∙ kind_asked f.kind in
      let three : c ≡ option_map_or (λ d. list_any (λ (w : PropertyValue). admits d w.value) (values s p.itself)) f.value true = k ∙ ap (λ zs. option_map_or (is_one_admitted zs) f.value true) e ∙ value_asked f.value in
      λ z. record { has_value = one z; is_good = two z && three z }
