-- What is borrowed of a model, as plain data, and what is said of it.
use Rattle.std.specs.Prelude.{◌≡◌, ℕ, Bool, ◌&&◌, List, [], ◌++◌, length, nat_lt, Option, map, filter, filter_map, flat_map, bytes_eq, codes, encode_utf8_all}
use Rattle.std.specs.List.{list_any, list_all}
use Rattle.std.specs.Option.{option_and_then, option_to_list}
use Rattle.std.specs.Ordering.{nat_cmp, ordering_then, is_eq}
use Rattle.std.specs.Cmp.Lexicographic.{slice_cmp}
use Rattle.std.specs.Borrow.{Bor}
use Rattle.ifc_base.specs.declared.value.Value.{Value}
use Rattle.ifc_base.specs.declared.value.Instance.{Instance}
use Rattle.ifc_base.specs.declared.key.Key.{Key}
use Rattle.ifc_base.specs.declared.key.Role.TheVariants as role
use Rattle.schema_table.specs.Schema.{Schema}
use Rattle.restrictions.specs.Admitting.{admits_text}
use Rattle.audit_model.specs.Keys.{Sight}
use Rattle.audit_model.specs.Reading.{Reading, stand, visit, gather, ◌>>=◌}
use Rattle.audit_model.specs.Hops.{hop, references_in, relating_things}
use Rattle.audit_model.specs.Hops.Hop.{Forward}
use Rattle.audit_model.specs.Paths.{SeenSet, set_path, types}
use Rattle.audit_model.specs.declared.facet.PropertyFacet.{PropertyFacet}
use Rattle.audit_model.specs.declared.verdict.Weighed.{Weighed}
use Rattle.audit_model.specs.Properties.{Property, set_name, named_property, properties_in, has_value, is_good}
use Rattle.facet_property.specs.declared.values.Values.{Values}
use Rattle.facet_property.specs.declared.find.Found.{Found}
use Rattle.facet_property.specs.declared.judging.Judged.{Judged}

-- the three lists, one after another
abbrev pub all_of : Values → List Value
all_of z = z.first.now ++ (z.second.now ++ (z.third.now ++ []))

abbrev pub property_of : Found → Property
property_of r = record { set_name = r.set.now; name = r.name.now; itself = r.it.now }

abbrev pub properties_of : List Found → List Property
properties_of rs = map property_of rs

abbrev pub texts_of : List (Bor (List ℕ)) → List (List ℕ)
texts_of rs = map (λ (r : Bor (List ℕ)). r.now) rs

-- the property is one of which the facet speaks
abbrev pub is_asked : PropertyFacet → Property → Bool
is_asked f p = admits_text f.set p.set_name && admits_text f.base_name p.name

-- what is said of a property, whatever its names are
abbrev pub judged : Schema → PropertyFacet → Property → Judged
judged s f p = record { has_value = has_value s p; is_good = is_good s f p }

-- the property, if it is there and has a name that the facet admits
abbrev pub asked_under : Schema → PropertyFacet → List ℕ → Option Instance → List Property
asked_under s f set x = filter (λ p. admits_text f.base_name p.name) (option_to_list (option_and_then (named_property s set) x))

-- the names of the sets that the facet admits
abbrev pub names_asked : Schema → PropertyFacet → List SeenSet → List (List ℕ)
names_asked s f zs = filter (admits_text f.set) (filter_map (set_name s) zs)

-- the properties of the sets of which the facet speaks
abbrev pub properties_asked : Schema → PropertyFacet → List SeenSet → List Property
properties_asked s f zs = filter (is_asked f) (flat_map (properties_in s) zs)

-- the sets of an element by itself, with what is in them
abbrev pub own_seen : Schema → ℕ → Reading (List SeenSet)
own_seen s e = do
  x ← stand e
  given ← relating_things s role.Properties e
  visit (set_path s) (given ++ references_in s x (codes "HasPropertySets"))

-- those of its types
abbrev pub types_seen : Schema → ℕ → Reading (List SeenSet)
types_seen s e = do
  ts ← types s e
  ids ← gather (hop s (Forward (codes "HasPropertySets"))) ts
  visit (set_path s) ids

-- what the facet asks for of the sets that the reading sees is appended, and the keys that it looks at
pub record Finds (s : Schema) (f : PropertyFacet) (r : Reading (List SeenSet)) (v : Sight) (names names' : List (Bor (List ℕ))) (found found' : List Found) (reads reads' : List Key) : Type 0 where
  pub names_are : texts_of names' ≡ texts_of names ++ names_asked s f (r.answer v)
  pub found_are : properties_of found' ≡ properties_of found ++ properties_asked s f (r.answer v)
  pub reads_are : reads' ≡ reads ++ r.keys v

-- Sets of texts, which are kept in UTF-8 and ordered by their bytes.

-- the stored text is this one
abbrev pub is_text : List ℕ → Bor (List ℕ) → Bool
is_text a k = is_eq (slice_cmp nat_cmp (encode_utf8_all a) k.now)

-- the stored texts are these two
abbrev pub are_texts : List ℕ → List ℕ → Bor (List ℕ) × Bor (List ℕ) → Bool
are_texts a b k = is_eq (ordering_then (slice_cmp nat_cmp (encode_utf8_all a) k.0.now) (slice_cmp nat_cmp (encode_utf8_all b) k.1.now))

-- these texts and no others are stored
abbrev pub HasTexts : List (Bor (List ℕ)) → List (List ℕ) → Type 0
HasTexts keys ts = (a : List ℕ) → list_any (is_text a) keys ≡ list_any (bytes_eq a) ts

-- the set name and the name of each of these properties, and no others, are stored
abbrev pub HasNames : List (Bor (List ℕ) × Bor (List ℕ)) → List Property → Type 0
HasNames keys ps = (a b : List ℕ) → list_any (are_texts a b) keys ≡ list_any (λ (p : Property). bytes_eq a p.set_name && bytes_eq b p.name) ps

-- of properties of which the facet speaks: some has a value, and all are good
abbrev pub judged_all : Schema → PropertyFacet → List Property → Judged
judged_all s f ps = record { has_value = list_any (has_value s) ps; is_good = list_all (is_good s f) ps }

-- the set names of those that have a value
abbrev pub valued_sets : Schema → List Property → List (List ℕ)
valued_sets s ps = map (λ (p : Property). p.set_name) (filter (has_value s) ps)

-- What a facet gives, of the admitted set names that reach the element and the properties of which it speaks: there is such a name,
-- under each of them a property has a value, and all properties are good.
abbrev pub weighed_by : Schema → PropertyFacet → List (List ℕ) → List Property → Weighed
weighed_by s f ns ps = record {
  holds = nat_lt 0 (length ns) && (list_all (λ n. list_any (bytes_eq n) (valued_sets s ps)) ns && list_all (is_good s f) ps);
  subject = list_any (has_value s) ps;
}
