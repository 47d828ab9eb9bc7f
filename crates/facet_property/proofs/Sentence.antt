-- The sentence of the property facet, of the names and properties of which it speaks alone.
use Rattle.std.proofs.Common.{◌≡◌, ℕ, List, [], ◌∷◌, ◌++◌, Bool, true, false, not, ◌&&◌, ◌||◌, nat_lt, length, refl, sym, ap, subst, ◌∙◌}
use Rattle.std.specs.Prelude.{Option, Some, None, filter_map, codes}
use Rattle.std.specs.List.{list_any, list_all, filter, flat_map}
use Rattle.std.specs.Option.{option_map, option_map_or, option_and_then, option_to_list}
use Rattle.std.specs.Str.{bytes_eq}
use Rattle.std.proofs.lemmas.List.Elements.{filter-append, filter_map-append}
use Rattle.std.proofs.lemmas.Grind.{flat_map-append}
use Rattle.std.proofs.lemmas.Slice.Eq.{bytes_eq-Decides}
use Rattle.std.proofs.lemmas.Bool.{and_parts}
use Rattle.ifc_base.specs.declared.value.Instance.{Instance}
use Rattle.schema_table.specs.Schema.{Schema}
use Rattle.schema_table.specs.Attributes.{text}
use Rattle.restrictions.specs.Admitting.{admits_text}
use Rattle.audit_model.specs.Paths.{SeenSet, SeenSets}
use Rattle.audit_model.specs.declared.facet.PropertyFacet.{PropertyFacet}
use Rattle.audit_model.specs.Properties.{Property, set_name, named_property, properties_in, have_same_names, with_inherited, reaching, has_value, is_good, asked_in, is_satisfied_in, property_weighed}
use Rattle.facet_property.specs.Held.{is_asked, names_asked, valued_sets, weighed_by}
use Rattle.facet_property.proofs.Three.{any_filtered, all_filtered, any_mapped, chosen}
use Rattle.facet_property.proofs.Lists.{any_agree, all_agree, all_both, filters_swap, Each, each_append, each_weaker, each_filtered, each_passing, any_first, any_last, all_good}

same_text : (a b : List ℕ) → bytes_eq a b ≡ true → a ≡ b
same_text a b e = (bytes_eq-Decides a b).0 e

one_answer : (x y : Bool) → (x ≡ true → y ≡ true) → (y ≡ true → x ≡ true) → x ≡ y
one_answer true y f g = sym (f refl)
one_answer false true f g = g refl
one_answer false false f g = refl

turned : (a b : List ℕ) → bytes_eq a b ≡ bytes_eq b a
turned a b = one_answer (bytes_eq a b) (bytes_eq b a) (λ e. (bytes_eq-Decides b a).1 (sym (same_text a b e))) (λ e. (bytes_eq-Decides a b).1 (sym (same_text b a e)))

-- Hiding.

module _ (f : PropertyFacet) where
  same_asked : (q p : Property) → have_same_names q p ≡ true → is_asked f q ≡ is_asked f p
  same_asked q p e =
      let h : (bytes_eq q.set_name p.set_name ≡ true) × (bytes_eq q.name p.name ≡ true) = and_parts _ _ e in
      ap (λ n. admits_text f.set n && admits_text f.base_name q.name) (same_text q.set_name p.set_name h.0) ∙ ap (λ n. admits_text f.set p.set_name && admits_text f.base_name n) (same_text q.name p.name h.1)

  asked_step : (a b c : Bool) → c ≡ true → (b ≡ true → c ≡ a) → (a && b) ≡ b
  asked_step true b c e h = refl
  asked_step false true c e h = absurd (let k = h refl in cc)
  asked_step false false c e h = refl

  -- a property of which the facet speaks is hidden by such ones alone
  hidden_asked : (own : List Property) (q : Property) → is_asked f q ≡ true → list_any (have_same_names q) own ≡ list_any (have_same_names q) (filter (is_asked f) own)
  hidden_asked own q e = sym (
      any_filtered (is_asked f) (have_same_names q) own
      ∙ any_agree (λ p. is_asked f p && have_same_names q p) (have_same_names q) (λ p. asked_step (is_asked f p) (have_same_names q p) (is_asked f q) e (same_asked q p)) own
      )

  pub reaching_asked : (own inherited : List Property) → filter (is_asked f) (with_inherited own inherited) ≡ with_inherited (filter (is_asked f) own) (filter (is_asked f) inherited)
  reaching_asked own inherited =
      filter-append (is_asked f) own (filter (λ q. not (list_any (have_same_names q) own)) inherited)
      ∙ ap (λ ps. filter (is_asked f) own ++ ps)
      (filters_swap (is_asked f) (λ q. not (list_any (have_same_names q) own)) (λ q. not (list_any (have_same_names q) (filter (is_asked f) own))) (λ q e. ap not (hidden_asked own q e)) inherited)

-- Names.

pub names_joined : (s : Schema) (f : PropertyFacet) (ys zs : List SeenSet) → names_asked s f ys ++ names_asked s f zs ≡ names_asked s f (ys ++ zs)
names_joined s f ys zs = sym (ap (filter (admits_text f.set)) (filter_map-append (set_name s) ys zs) ∙ filter-append (admits_text f.set) (filter_map (set_name s) ys) (filter_map (set_name s) zs))

-- the name of the property's set is among these
abbrev IsUnder : List (List ℕ) → Property → Type 0
IsUnder ns p = list_any (λ n. bytes_eq n p.set_name) ns ≡ true

module _ (s : Schema) where
  under_named : (n : List ℕ) (ns : List (List ℕ)) (m : Option (List ℕ)) (x : Instance) → Each (IsUnder (n ∷ ns)) (option_to_list (option_map (λ a. let p : Property = record { set_name = n; name = a; itself = x } in p) m))
  under_named n ns None x = tt
  under_named n ns (Some a) x = (ap (λ b. b || list_any (λ k. bytes_eq k n) ns) ((bytes_eq-Decides n n).1 refl), tt)

  under_one : (n : List ℕ) (ns : List (List ℕ)) (o : Option Instance) → Each (IsUnder (n ∷ ns)) (option_to_list (option_and_then (named_property s n) o))
  under_one n ns None = tt
  under_one n ns (Some x) = under_named n ns (text s x (codes "Name")) x

  under_all : (n : List ℕ) (ns : List (List ℕ)) (ps : List (Option Instance)) → Each (IsUnder (n ∷ ns)) (flat_map (λ o. option_to_list (option_and_then (named_property s n) o)) ps)
  under_all n ns [] = tt
  under_all n ns (p ∷ ps) =
      each_append (IsUnder (n ∷ ns)) (option_to_list (option_and_then (named_property s n) p)) (flat_map (λ o. option_to_list (option_and_then (named_property s n) o)) ps) (under_one n ns p) (under_all n ns ps)

  abbrev inside : Option (List ℕ) → List (Option Instance) → List Property
  inside m ps = option_map_or (λ set. filter_map (option_and_then (named_property s set)) ps) m []

  under_set : (m : Option (List ℕ)) (ns : List (List ℕ)) (ps : List (Option Instance)) → Each (IsUnder (option_to_list m ++ ns)) (inside m ps)
  under_set None ns ps = tt
  under_set (Some n) ns ps = subst (λ qs. Each (IsUnder (n ∷ ns)) qs) (sym (chosen (option_and_then (named_property s n)) ps)) (under_all n ns ps)

  abbrev texts : List SeenSet → List (List ℕ)
  texts zs = flat_map (λ z. option_to_list (set_name s z)) zs

  under_sets : (zs : List SeenSet) → Each (IsUnder (texts zs)) (flat_map (properties_in s) zs)
  under_sets [] = tt
  under_sets (z ∷ zs) = each_append (IsUnder (option_to_list (set_name s z) ++ texts zs)) (properties_in s z) (flat_map (properties_in s) zs)
      (under_set (set_name s z) (texts zs) z.properties)
      (each_weaker (IsUnder (texts zs)) (IsUnder (option_to_list (set_name s z) ++ texts zs)) (λ p. any_last (λ n. bytes_eq n p.set_name) (option_to_list (set_name s z)) (texts zs)) (flat_map (properties_in s) zs) (under_sets zs))

  under_reaching : (z : SeenSets) → Each (IsUnder (texts (z.own ++ z.of_types))) (reaching s z)
  under_reaching z =
      let own : List (List ℕ) = texts z.own in
      let inherited : List (List ℕ) = texts z.of_types in
      let all : List (List ℕ) = texts (z.own ++ z.of_types) in
      let mine : List Property = flat_map (properties_in s) z.own in
      let theirs : List Property = flat_map (properties_in s) z.of_types in
      let e : own ++ inherited ≡ all = sym (flat_map-append (λ y. option_to_list (set_name s y)) z.own z.of_types) in
      each_append (IsUnder all) mine (filter (λ q. not (list_any (have_same_names q) mine)) theirs)
      (each_weaker (IsUnder own) (IsUnder all) (λ p h. subst (λ ns. IsUnder ns p) e (any_first (λ n. bytes_eq n p.set_name) own inherited h)) mine (under_sets z.own))
      (each_filtered (IsUnder all) (λ q. not (list_any (have_same_names q) mine)) theirs
      (each_weaker (IsUnder inherited) (IsUnder all) (λ p h. subst (λ ns. IsUnder ns p) e (any_last (λ n. bytes_eq n p.set_name) own inherited h)) theirs (under_sets z.of_types)))

admitted_step : (a b c : Bool) → c ≡ true → (b ≡ true → a ≡ c) → (a && b) ≡ b
admitted_step true b c e h = refl
admitted_step false true c e h = absurd (let k = h refl in cc)
admitted_step false false c e h = refl

-- a property of which the facet speaks is under an admitted name
under_admitted : (f : PropertyFacet) (ns : List (List ℕ)) (p : Property) → IsUnder ns p → is_asked f p ≡ true → IsUnder (filter (admits_text f.set) ns) p
under_admitted f ns p h e =
    let a : (admits_text f.set p.set_name ≡ true) × (admits_text f.base_name p.name ≡ true) = and_parts _ _ e in
    any_filtered (admits_text f.set) (λ n. bytes_eq n p.set_name) ns
    ∙ any_agree (λ n. admits_text f.set n && bytes_eq n p.set_name) (λ n. bytes_eq n p.set_name)
    (λ n. admitted_step (admits_text f.set n) (bytes_eq n p.set_name) (admits_text f.set p.set_name) a.0 (λ k. ap (admits_text f.set) (same_text n p.set_name k))) ns
    ∙ h

-- The facet is satisfied under each name.

and_true : (b h : Bool) → (b && h) ≡ (b && (h && true))
and_true true true = refl
and_true true false = refl
and_true false h = refl

and_false : (a b h : Bool) → false ≡ ((a && b) && (h && false))
and_false true true true = refl
and_false true true false = refl
and_false true false h = refl
and_false false b h = refl

or_left : (x : Bool) → true ≡ (x || true)
or_left true = refl
or_left false = refl

turn_any : (e b h a : Bool) → (e ≡ true → a ≡ true) → ((e && b) && h) ≡ ((a && b) && (h && e))
turn_any true b h true k = and_true b h
turn_any true b h false k = absurd (let j = k refl in cc)
turn_any false b h a k = and_false a b h

turn_all : (e b g a : Bool) → (e ≡ true → a ≡ true) → (not (e && b) || g) ≡ (not (a && b) || (not e || g))
turn_all true b g true k = refl
turn_all true b g false k = absurd (let j = k refl in cc)
turn_all false b g a k = or_left (not (a && b))

module _ (s : Schema) (f : PropertyFacet) (ps : List Property) where
  abbrev asked : List Property
  asked = filter (is_asked f) ps

  abbrev is_valued : List ℕ → Bool
  is_valued n = list_any (bytes_eq n) (valued_sets s asked)

  abbrev are_good : List ℕ → Bool
  are_good n = list_all (λ (p : Property). not (bytes_eq n p.set_name) || is_good s f p) asked

  abbrev here : List ℕ → Property → Bool
  here n p = bytes_eq p.set_name n && admits_text f.base_name p.name

  admitted_at : (n : List ℕ) (p : Property) → admits_text f.set n ≡ true → bytes_eq p.set_name n ≡ true → admits_text f.set p.set_name ≡ true
  admitted_at n p e h = ap (admits_text f.set) (same_text p.set_name n h) ∙ e

  valued_under : (n : List ℕ) → admits_text f.set n ≡ true → list_any (has_value s) (asked_in s f ps n) ≡ is_valued n
  valued_under n e =
      any_filtered (here n) (has_value s) ps
      ∙ sym (
      any_mapped (bytes_eq n) (λ (p : Property). p.set_name) (filter (has_value s) asked)
      ∙ any_filtered (has_value s) (λ (p : Property). bytes_eq n p.set_name) asked
      ∙ any_filtered (is_asked f) (λ p. has_value s p && bytes_eq n p.set_name) ps
      ∙ any_agree (λ p. is_asked f p && (has_value s p && bytes_eq n p.set_name)) (λ p. here n p && has_value s p)
      (λ p. ap (λ b. is_asked f p && (has_value s p && b)) (turned n p.set_name)
      ∙ sym (turn_any (bytes_eq p.set_name n) (admits_text f.base_name p.name) (has_value s p) (admits_text f.set p.set_name) (admitted_at n p e))) ps
      )

  good_under : (n : List ℕ) → admits_text f.set n ≡ true → list_all (is_good s f) (asked_in s f ps n) ≡ are_good n
  good_under n e =
      all_filtered (here n) (is_good s f) ps
      ∙ sym (
      all_filtered (is_asked f) (λ (p : Property). not (bytes_eq n p.set_name) || is_good s f p) ps
      ∙ all_agree (λ p. not (is_asked f p) || (not (bytes_eq n p.set_name) || is_good s f p)) (λ p. not (here n p) || is_good s f p)
      (λ p. ap (λ b. not (is_asked f p) || (not b || is_good s f p)) (turned n p.set_name)
      ∙ sym (turn_all (bytes_eq p.set_name n) (admits_text f.base_name p.name) (is_good s f p) (admits_text f.set p.set_name) (admitted_at n p e))) ps
      )

  all_under : (ns : List (List ℕ)) → Each (λ n. admits_text f.set n ≡ true) ns → list_all (is_satisfied_in s f ps) ns ≡ list_all (λ n. is_valued n && are_good n) ns
  all_under [] h = refl
  all_under (n ∷ ns) h =
      ap (λ b. (b && list_all (is_good s f) (asked_in s f ps n)) && list_all (is_satisfied_in s f ps) ns) (valued_under n h.0)
      ∙ ap (λ b. (is_valued n && b) && list_all (is_satisfied_in s f ps) ns) (good_under n h.0)
      ∙ ap (λ b. (is_valued n && are_good n) && b) (all_under ns h.1)

  met_under : (ns : List (List ℕ)) → Each (λ n. admits_text f.set n ≡ true) ns → Each (IsUnder ns) asked → list_all (is_satisfied_in s f ps) ns ≡ (list_all is_valued ns && list_all (is_good s f) asked)
  met_under ns e h =
      all_under ns e
      ∙ all_both is_valued are_good ns
      ∙ ap (λ b. list_all is_valued ns && b) (all_good (λ n (p : Property). bytes_eq n p.set_name) (is_good s f) ns asked h)

admitted_step_all : (f : PropertyFacet) (ns : List (List ℕ)) → Each (λ n. Unit {0}) ns
admitted_step_all f [] = tt
admitted_step_all f (n ∷ ns) = (tt, admitted_step_all f ns)

-- what the facet gives is said of the admitted names and of the properties of which it speaks
pub weighed_is : (s : Schema) (f : PropertyFacet) (z : SeenSets) → property_weighed s f z ≡ weighed_by s f (names_asked s f (z.own ++ z.of_types)) (filter (is_asked f) (reaching s z))
weighed_is s f z =
    let sets : List SeenSet = z.own ++ z.of_types in
    let ns : List (List ℕ) = names_asked s f sets in
    let all : List (List ℕ) = filter_map (set_name s) sets in
    let ps : List Property = reaching s z in
    let reach : Each (IsUnder all) ps = subst (λ ts. Each (IsUnder ts) ps) (sym (chosen (set_name s) sets)) (under_reaching s z) in
    let under : Each (IsUnder ns) (filter (is_asked f) ps) = each_passing (IsUnder all) (IsUnder ns) (is_asked f) (λ p h e. under_admitted f all p h e) ps reach in
    let admitted : Each (λ n. admits_text f.set n ≡ true) ns = each_passing (λ n. Unit {0}) (λ n. admits_text f.set n ≡ true) (admits_text f.set) (λ n h e. e) all (admitted_step_all f all) in
    let holds : (property_weighed s f z).holds ≡ (weighed_by s f ns (filter (is_asked f) ps)).holds = ap (λ b. nat_lt 0 (length ns) && b) (met_under s f ps ns admitted under) in
    let subject : (property_weighed s f z).subject ≡ (weighed_by s f ns (filter (is_asked f) ps)).subject =
    sym (any_filtered (is_asked f) (has_value s) ps) in
    λ i. record { holds = holds i; subject = subject i }
