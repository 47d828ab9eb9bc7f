-- How many attributes an entity of a table has.
use Rattle.std.proofs.Common.{◌≡◌, ℕ, zero, suc, ◌*◌, ◌<◌, ◌≤◌, Bool, true, false, cond, nat_lt, List, [], ◌∷◌, ◌++◌, find, length, reverse, flat_map, Option, Some, None, ap, ◌∙◌, arith, length-append}
use Rattle.std.proofs.lemmas.Bool.Decides.{nat_tests}
use Rattle.std.proofs.lemmas.Grind.{reverse_onto, flat_map-append}
use Rattle.std.specs.List.{list_any}
use Rattle.std.specs.Option.{option_and_then}
use Rattle.std.specs.Str.{bytes_eq}
use Rattle.std.proofs.lemmas.List.{length-map}
use Rattle.std.proofs.lemmas.List.Quantifiers.{position-Some}
use Rattle.ifc_base.specs.declared.decl.EntityDecl.{EntityDecl}
use Rattle.schema_table.specs.declared.slot.AttrSlot.{AttrSlot}
use Rattle.schema_table.specs.Schema.{Schema, declaration, supertype, upwards, ancestry, attributes, place_of}
use Rattle.schema_table.specs.Declarations.{are_too_many}

-- at most 200 own attributes
abbrev IsSmall : EntityDecl → Type 0
IsSmall d = length d.own ≤ 200

abbrev IsSmallIfThere : Option EntityDecl → Type 0
IsSmallIfThere None = Unit {0}
IsSmallIfThere (Some d) = IsSmall d

small_found : (p : EntityDecl → Bool) (ds : List EntityDecl) → list_any (λ d. nat_lt 200 (length d.own)) ds ≡ false → IsSmallIfThere (find p ds)
small_found p [] h = tt
small_found p (d ∷ ds) h =
    let small : IsSmall d = grind (arith, nat_tests) in
    let rest : list_any (λ e. nat_lt 200 (length e.own)) ds ≡ false = grind (arith, nat_tests) in
    elim (p d) as (λ b. IsSmallIfThere (cond b (Some d) (find p ds))) [ true ↦ small | false ↦ small_found p ds rest ]

small_super : (s : Schema) → list_any (λ d. nat_lt 200 (length d.own)) s ≡ false → (o : Option (List ℕ)) → IsSmallIfThere (option_and_then (declaration s) o)
small_super s h None = tt
small_super s h (Some name) = small_found (λ d. bytes_eq d.name name) s h

abbrev AreSmall : List EntityDecl → Type 0
AreSmall [] = Unit {0}
AreSmall (d ∷ ds) = IsSmall d × AreSmall ds

small_upwards : (s : Schema) → list_any (λ d. nat_lt 200 (length d.own)) s ≡ false → (n : ℕ) (o : Option EntityDecl) → IsSmallIfThere o → AreSmall (upwards s n o)
small_upwards s h zero o q = tt
small_upwards s h (suc n) None q = tt
small_upwards s h (suc n) (Some d) q = (q, small_upwards s h n (supertype s d) (small_super s h d.parent))

length_upwards : (s : Schema) (n : ℕ) (o : Option EntityDecl) → length (upwards s n o) ≤ n
length_upwards s zero o = omega arith
length_upwards s (suc n) None = omega arith
length_upwards s (suc n) (Some d) = let h : length (upwards s n (supertype s d)) ≤ n = length_upwards s n (supertype s d) in omega arith

abbrev pub own_names : List EntityDecl → List (List ℕ)
own_names ds = flat_map (λ d. d.own) ds

-- the own attributes of the first entity come last
pub own_names_up : (d : EntityDecl) (ds : List EntityDecl) → own_names (reverse (d ∷ ds)) ≡ own_names (reverse ds) ++ (d.own ++ [])
own_names_up d ds = ap own_names (reverse_onto ds d []) ∙ flat_map-append (λ (e : EntityDecl). e.own) (reverse ds) (d ∷ [])

own_of_reversed : (ds : List EntityDecl) → AreSmall ds → length (own_names (reverse ds)) ≤ 200 * length ds
own_of_reversed [] h = omega arith
own_of_reversed (d ∷ ds) h =
    let rest : length (own_names (reverse ds)) ≤ 200 * length ds = own_of_reversed ds h.1 in
    let small : length d.own ≤ 200 = h.0 in
    rw (own_names_up d ds) (omega (arith, length-append (own_names (reverse ds)) (d.own ++ []), length-append d.own []))

-- as many attributes as entities, times 200
pub attributes_bound : (s : Schema) → are_too_many s [] ≡ false → (name : List ℕ) → length (attributes s name) ≤ 1000000
unfolding attributes
attributes_bound s h name =
    let small : list_any (λ d. nat_lt 200 (length d.own)) s ≡ false = grind (arith, nat_tests) in
    let few : length s ≤ 5000 = grind (arith, nat_tests) in
    let up = small_upwards s small (length s) (declaration s name) (small_found (λ d. bytes_eq d.name name) s small) in
    let short : length (ancestry s name) ≤ length s = length_upwards s (length s) (declaration s name) in
    let own : length (own_names (reverse (ancestry s name))) ≤ 200 * length (ancestry s name) = own_of_reversed (ancestry s name) up in
    rw length-map (omega arith)

pub place_fits : (s : Schema) → are_too_many s [] ≡ false → (name attr : List ℕ) (k : ℕ) → place_of s name attr ≡ Some k → k < 4294967296
unfolding place_of
place_fits s h name attr k e =
    let many : length (attributes s name) ≤ 1000000 = attributes_bound s h name in
    let within : k < length (attributes s name) = (position-Some (λ (a : AttrSlot). bytes_eq a.name attr) (attributes s name) k (record { name = []; derived = false }) e).0 in
    omega arith
