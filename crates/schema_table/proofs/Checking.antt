-- The faults of names, by the index.
use Rattle.std.proofs.Common.{◌≡◌, ℕ, suc, ◌+◌, ◌<◌, ◌≤◌, Bool, true, false, not, ◌||◌, nat_lt, map, List, [], ◌∷◌, ◌++◌, take, drop, reverse, length, get_or, find, Option, Some, None, String, is_none, if◌then◌else◌, refl, ap, sym, ◌∙◌, arith, encode_utf8_all}
use Rattle.std.specs.List.{list_any, slice_get}
use Rattle.std.specs.Option.{option_or, option_map, option_map_or, option_and_then}
use Rattle.std.specs.Str.{bytes_eq, chars, IsUtf8}
use Rattle.std.specs.Bool.{one_answer}
use Rattle.std.proofs.lemmas.Bool.Decides.{nat_tests}
use Rattle.std.proofs.lemmas.Slice.Eq.{bytes_eq-Decides}
use Rattle.std.proofs.lemmas.List.{take_more}
use Rattle.std.proofs.Math.Seq.{drop-cons}
use Rattle.std.proofs.lemmas.List.Sorted.{list_any-IsPermutation, IsPermutation-reverse}
use Rattle.std.proofs.lemmas.List.{reverse-append}
use Rattle.std.proofs.lemmas.Str.{encodes_same, encodes-chars}
use Rattle.std.proofs.lemmas.Option.{slice_get-get_or}
use Rattle.indexmap.specs.IndexMap.{IndexMap, get_by_text}
use Rattle.ifc_base.specs.declared.decl.EntityDecl.{EntityDecl}
use Rattle.schema_table.specs.declared.fault.SchemaFault.{SchemaFault}
use Rattle.ifc_base.specs.declared.decl.TypeDecl.{TypeDecl}
use Rattle.schema_table.specs.declared.fault.SchemaFault.TheVariants.{Twice, UnknownSuper, Cycle, TooMany}
use Rattle.schema_table.specs.Schema.{Schema, declaration}
use Rattle.schema_table.specs.Declarations.{are_too_many, declared_fault, has_unknown_super, entity_fault, is_own_ancestor, schema_fault}
use Rattle.schema_table.specs.Climbing.{place, is_number, parents_of}
use Rattle.schema_table.specs.Index.{IsIndex, index_fault, indexed_parent}
use Rattle.schema_table.proofs.Numbers.{no_first}
use Rattle.schema_table.proofs.Positions.{position_same, stood_before, found_or_not}

encoded_names : (x y : List ℕ) → bytes_eq (encode_utf8_all x) (encode_utf8_all y) ≡ bytes_eq y x
encoded_names x y =
    one_answer {P = x ≡ y} (bytes_eq (encode_utf8_all x) (encode_utf8_all y)) (bytes_eq y x)
    (λ e. encodes_same x y ((bytes_eq-Decides (encode_utf8_all x) (encode_utf8_all y)).0 e), λ e. (bytes_eq-Decides (encode_utf8_all x) (encode_utf8_all y)).1 (ap encode_utf8_all e))
    (λ e. sym ((bytes_eq-Decides y x).0 e), λ e. (bytes_eq-Decides y x).1 (sym e))

-- the index gives the place of a name
pub index_place : {Y S : Type 0} (s : Schema) (m : IndexMap (String Y) ℕ S) → IsIndex s m → (name : List ℕ) → get_by_text m (encode_utf8_all name) ≡ place s name
index_place s m is name =
    is (encode_utf8_all name) ∙ position_same (λ (d : EntityDecl). bytes_eq (encode_utf8_all name) (encode_utf8_all d.name)) (λ d. bytes_eq d.name name) (λ d. encoded_names name d.name) s

-- and that of a text's characters
pub index_text : {Y S : Type 0} (s : Schema) (m : IndexMap (String Y) ℕ S) → IsIndex s m → (text : List ℕ) → IsUtf8 text → get_by_text m text ≡ place s (chars text)
index_text s m is text u = ap (get_by_text m) (sym (encodes-chars text u)) ∙ index_place s m is (chars text)

list_any_reverse : {X : Type 0} (p : X → Bool) (xs : List X) → list_any p (reverse xs) ≡ list_any p xs
list_any_reverse p xs = sym (list_any-IsPermutation p xs (reverse xs) (IsPermutation-reverse xs))

twice_is : {Y S : Type 0} (s : Schema) (m : IndexMap (String Y) ℕ S) → IsIndex s m → (i : ℕ) (d : EntityDecl) → slice_get s i ≡ Some d
    → (if is_number (get_by_text m (encode_utf8_all d.name)) i then None else Some (Twice d.name)) ≡ (if list_any (λ e. bytes_eq e.name d.name) (reverse (take i s)) then Some (Twice d.name) else None)
twice_is s m is i d e =
    ap (λ o. if is_number o i then None else Some (Twice d.name)) (index_place s m is d.name)
    ∙ turned (is_number (place s d.name) i)
    ∙ ap (λ b. if b then Some (Twice d.name) else None) (sym (list_any_reverse (λ (x : EntityDecl). bytes_eq x.name d.name) (take i s) ∙ stood_before (λ (x : EntityDecl). bytes_eq x.name d.name) s i d e ((bytes_eq-Decides d.name d.name).1 refl)))
  where
    turned : (b : Bool) → (if b then None else Some (Twice d.name)) ≡ (if not b then Some (Twice d.name) else None)
    turned true = refl
    turned false = refl

unknown_is : {Y S : Type 0} (s : Schema) (m : IndexMap (String Y) ℕ S) → IsIndex s m → (d : EntityDecl) → option_map_or (λ parent. is_none (get_by_text m (encode_utf8_all parent))) d.parent false ≡ has_unknown_super s d
unknown_is s m is d = by d.parent
  where
    by : (o : Option (List ℕ)) → option_map_or (λ parent. is_none (get_by_text m (encode_utf8_all parent))) o false ≡ option_map_or (λ parent. is_none (declaration s parent)) o false
    by None = refl
    by (Some parent) = ap is_none (index_place s m is parent) ∙ sym (found_or_not (λ (x : EntityDecl). bytes_eq x.name parent) s)

-- the fault of this entity, or else that of the rest
pub one_entity : {Y S : Type 0} (s : Schema) (m : IndexMap (String Y) ℕ S) → IsIndex s m → (i : ℕ) (d : EntityDecl) → i < length s → get_or s i d ≡ d
    → entity_fault s (reverse (take i s)) (drop i s) ≡ option_or (index_fault m i d) (entity_fault s (reverse (take (i + 1) s)) (drop (i + 1) s))
one_entity s m is i d h e =
    let there : slice_get s i ≡ Some d = slice_get-get_or s i d h ∙ ap Some e in
    let next : i + 1 ≡ suc i = omega arith in
    let rest : drop i s ≡ d ∷ drop (i + 1) s = drop-cons s i d h ∙ ap (λ x. x ∷ drop (suc i) s) e ∙ ap (λ k. d ∷ drop k s) (sym next) in
    let front : reverse (take (i + 1) s) ≡ d ∷ reverse (take i s) = ap reverse (take_more s i d h ∙ ap (λ x. take i s ++ x ∷ []) e) ∙ reverse-append (take i s) (d ∷ []) in
    ap (entity_fault s (reverse (take i s))) rest
    ∙ joined (if list_any (λ x. bytes_eq x.name d.name) (reverse (take i s)) then Some (Twice d.name) else None) (if has_unknown_super s d then Some (UnknownSuper d.name) else None) (entity_fault s (d ∷ reverse (take i s)) (drop (i + 1) s))
    ∙ ap (λ o. option_or (option_or o (if has_unknown_super s d then Some (UnknownSuper d.name) else None)) (entity_fault s (d ∷ reverse (take i s)) (drop (i + 1) s))) (sym (twice_is s m is i d there))
    ∙ ap (λ b. option_or (option_or (if is_number (get_by_text m (encode_utf8_all d.name)) i then None else Some (Twice d.name)) (if b then Some (UnknownSuper d.name) else None)) (entity_fault s (d ∷ reverse (take i s)) (drop (i + 1) s))) (sym (unknown_is s m is d))
    ∙ ap (λ l. option_or (index_fault m i d) (entity_fault s l (drop (i + 1) s))) (sym front)
  where
    joined : {F : Type 0} (a b c : Option F) → option_or a (option_or b c) ≡ option_or (option_or a b) c
    joined None b c = refl
    joined (Some f) b c = refl

-- the parents by the index are the parents
pub indexed_parents : {Y S : Type 0} (s : Schema) (m : IndexMap (String Y) ℕ S) → IsIndex s m → map (indexed_parent m) s ≡ parents_of s
unfolding parents_of
indexed_parents s m is = each s
  where
    one : (o : Option (List ℕ)) → option_and_then (λ parent. get_by_text m (encode_utf8_all parent)) o ≡ option_and_then (place s) o
    one None = refl
    one (Some parent) = index_place s m is parent

    each : (ds : List EntityDecl) → map (indexed_parent m) ds ≡ map (λ d. option_and_then (place s) d.parent) ds
    each [] = refl
    each (d ∷ ds) = ap (λ o. o ∷ map (indexed_parent m) ds) (one d.parent) ∙ ap (λ l. option_and_then (place s) d.parent ∷ l) (each ds)

-- A fault is the first of these three.

pub too_many_fault : (s : Schema) (types : List TypeDecl) → are_too_many s types ≡ true → schema_fault s types ≡ Some TooMany
unfolding schema_fault
too_many_fault s types e = rw e refl

pub other_faults : (s : Schema) (types : List TypeDecl) → are_too_many s types ≡ false → schema_fault s types ≡ declared_fault s
unfolding schema_fault
other_faults s types e = rw e refl

pub names_first : (s : Schema) (f : SchemaFault) → Some f ≡ entity_fault s [] s → Some f ≡ declared_fault s
names_first s f g = ap (λ o. option_or o (option_map (λ (d : EntityDecl). Cycle d.name) (find (is_own_ancestor s) s))) g

pub cycle_last : (s : Schema) (o : Option SchemaFault) → None ≡ entity_fault s [] s → o ≡ option_map (λ d. Cycle d.name) (find (is_own_ancestor s) s) → o ≡ declared_fault s
cycle_last s o g h = h ∙ ap (λ p. option_or p (option_map (λ (d : EntityDecl). Cycle d.name) (find (is_own_ancestor s) s))) g

-- fewer types, and still no fault
pub without_types : (s : Schema) (types : List TypeDecl) → schema_fault s types ≡ None → schema_fault s [] ≡ None
unfolding schema_fault
without_types s types e =
    let first = no_first (are_too_many s types) TooMany _ e in
    let few : are_too_many s [] ≡ false = fewer (length s) (length types) (list_any (λ d. nat_lt 200 (length d.own)) s) first.0 in
    rw few first.1
  where
    fewer : (n m : ℕ) (b : Bool) → (nat_lt 5000 (n + m) || b) ≡ false → (nat_lt 5000 (n + 0) || b) ≡ false
    fewer n m b h = grind (arith, nat_tests)

pub few_enough : (s : Schema) (types : List TypeDecl) → are_too_many s types ≡ false → length s ≤ 5000
few_enough s types h = few (length s) (length types) (list_any (λ d. nat_lt 200 (length d.own)) s) h
  where
    few : (n m : ℕ) (b : Bool) → (nat_lt 5000 (n + m) || b) ≡ false → n ≤ 5000
    few n m b h = grind (arith, nat_tests)
