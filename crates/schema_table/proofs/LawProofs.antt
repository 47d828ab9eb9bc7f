-- The laws of schemas.
use Rattle.std.proofs.Common.{◌≡◌, ℕ, zero, suc, ◌+◌, ◌<◌, ◌≤◌, Bool, true, false, cond, ◌||◌, ◌==◌, nat_lt, List, [], ◌∷◌, ◌++◌, map, length, reverse, position, Option, Some, None, is_none, if◌then◌else◌, refl, ap, sym, ◌∙◌, subst, append-nil, append_assoc, inl, inr, ◌⊎◌, ⊎_elim}
use Rattle.std.specs.List.{list_any, slice_get, position_or_len}
use Rattle.std.specs.Option.{option_map_or, option_and_then}
use Rattle.std.specs.Str.{bytes_eq}
use Rattle.std.proofs.lemmas.Bool.{cases_lt, eqb-true}
use Rattle.std.proofs.lemmas.Option.{slice_get_within}
use Rattle.std.proofs.lemmas.List.{length-map}
use Rattle.std.proofs.lemmas.Slice.Eq.{bytes_eq-Decides}
use Rattle.ifc_base.specs.declared.decl.EntityDecl.{EntityDecl}
use Rattle.ifc_base.specs.Histories.{StartsWith}
use Rattle.schema_table.specs.declared.slot.AttrSlot.{AttrSlot}
use Rattle.schema_table.specs.Schema.{Schema, declaration, supertype, upwards, ancestry, is_kind_of, redeclares, attributes, place_of}
use Rattle.schema_table.specs.declared.fault.InstanceFault.{InstanceFault}
use Rattle.schema_table.specs.declared.fault.InstanceFault.TheVariants.{ParamCount}
use Rattle.schema_table.specs.Faults.{instance_fault, unknown_fault, abstract_fault, count_fault, derived_fault, params_fault}
use Rattle.schema_table.specs.Climbing.{place, is_number, parents_of, entity_at, step, lift, chain}
use Rattle.schema_table.specs.Laws.{KindOfItself, KindOfKind, KindOfSupertype, EndsAtTop, AncestryEnds, attribute_names, OwnAttributesLast, InheritedFirst, PlacesAreInherited, FittingHasItsParameters}
use Rattle.schema_table.proofs.Bounds.{own_names, own_names_up}
use Rattle.schema_table.proofs.Positions.{place_in_front, there_is}
use Rattle.schema_table.proofs.Chains.{lift-zero, lift-suc, lift-none, lift-add, lift_ended, passed, reached}
use Rattle.schema_table.proofs.Numbers.{no_fault, declaration_at, stands_at, step_is, step_number, super_is, IsNumber, AreSound, any_named_up, IsWhole, is_whole, none_up, all_up, all_up_step}

same_names : (x : List ℕ) → bytes_eq x x ≡ true
same_names x = (bytes_eq-Decides x x).1 refl

pub kind_of_itself : KindOfItself
unfolding is_kind_of
kind_of_itself s name = rw (same_names name) refl

place_number : (s : Schema) (name : List ℕ) → IsNumber s (place s name)
place_number s name x e = (stands_at s name x e).within

any_or : (a b : Bool) → (a || b) ≡ true → (a ≡ true) ⊎ (b ≡ true)
any_or true b h = inl refl
any_or false b h = inr h

or_true : (b : Bool) → (b || true) ≡ true
or_true true = refl
or_true false = refl

-- so many steps up from the one stands the other
pub record IsUp (s : Schema) (a b : List ℕ) : Type 0 where
  pub steps : ℕ
  pub number : ℕ
  pub up : lift (parents_of s) steps (place s a) ≡ Some number
  pub there : place s b ≡ Some number

none_is_number : (xs : List ℕ) → list_any (is_number None) xs ≡ false
none_is_number [] = refl
none_is_number (x ∷ xs) = none_is_number xs

up_from : (s : Schema) → IsWhole s → (a b : List ℕ) → list_any (λ d. bytes_eq d.name b) (ancestry s a) ≡ true → IsUp s a b
up_from s whole a b h =
    let ps : List (Option ℕ) = parents_of s in
    let n : ℕ = length s in
    let numbers : list_any (is_number (place s b)) (chain ps n (place s a)) ≡ true =
    sym (any_named_up s whole.sound b n (place s a) (place_number s a)) ∙ ap (λ o. list_any (λ (d : EntityDecl). bytes_eq d.name b) (upwards s n o)) (sym (declaration_at s a)) ∙ h in
    let F : Option ℕ → Type 0 = λ o. place s b ≡ o → list_any (is_number o) (chain ps n (place s a)) ≡ true → IsUp s a b in
    let at : F (place s b) = elim (place s b) as F [
      | None ↦ λ f g. absurd (let e : false ≡ true = sym (none_is_number (chain ps n (place s a))) ∙ g in cc)
      | Some k ↦ λ f g. let p = passed ps n (place s a) k g in record { steps = p.0; number = k; up = p.2; there = f }
    ] in
    at refl numbers

from_up : (s : Schema) → IsWhole s → (a b : List ℕ) → IsUp s a b → list_any (λ d. bytes_eq d.name b) (ancestry s a) ≡ true
from_up s whole a b u =
    let ps : List (Option ℕ) = parents_of s in
    let n : ℕ = length s in
    ap (λ o. list_any (λ (d : EntityDecl). bytes_eq d.name b) (upwards s n o)) (declaration_at s a)
    ∙ any_named_up s whole.sound b n (place s a) (place_number s a)
    ∙ ap (λ o. list_any (is_number o) (chain ps n (place s a))) u.there
    ∙ ⊎_elim (λ less. reached ps n (place s a) u.steps u.number less u.up)
    (λ more. absurd (let gone : lift ps u.steps (place s a) ≡ None = ended more in let e : None ≡ Some u.number = sym gone ∙ u.up in cc))
    (cases_lt u.steps n)
  where
    ended : length s ≤ u.steps → lift (parents_of s) u.steps (place s a) ≡ None
    ended more = by (place s a) refl
      where
        by : (o : Option ℕ) → place s a ≡ o → lift (parents_of s) u.steps o ≡ None
        by None f = lift-none (parents_of s) u.steps
        by (Some i) f = lift_ended (parents_of s) (length s) u.steps (Some i) more (whole.ends i (place_number s a i f))

pub kind_of_kind : KindOfKind
unfolding is_kind_of
kind_of_kind s types a b c e h k =
    let whole : IsWhole s = is_whole s types e in
    ⊎_elim
    (λ same. let n : a ≡ b = (bytes_eq-Decides a b).0 same in subst (λ x. is_kind_of s x c ≡ true) (sym n) k)
    (λ up. ⊎_elim
    (λ same. let n : b ≡ c = (bytes_eq-Decides b c).0 same in subst (λ x. is_kind_of s a x ≡ true) n h)
    (λ more.
    let first = up_from s whole a b up in
    let second = up_from s whole b c more in
    let all : lift (parents_of s) (first.steps + second.steps) (place s a) ≡ Some second.number =
    lift-add (parents_of s) first.steps second.steps (place s a) ∙ ap (lift (parents_of s) second.steps) (first.up ∙ sym first.there) ∙ second.up in
    let u : IsUp s a c = record { steps = first.steps + second.steps; number = second.number; up = all; there = second.there } in
    rw (from_up s whole a c u) (or_true (bytes_eq a c)))
    (any_or (bytes_eq b c) (list_any (λ d. bytes_eq d.name c) (ancestry s b)) k))
    (any_or (bytes_eq a b) (list_any (λ d. bytes_eq d.name b) (ancestry s a)) h)

known_super : (s : Schema) (x : ℕ) (d : EntityDecl) (parent : List ℕ) → AreSound s → slice_get s x ≡ Some d → d.parent ≡ Some parent → (j : ℕ) × (place s parent ≡ Some j)
known_super s x d parent sound e p =
    let known : is_none (declaration s parent) ≡ false = ap (λ o. option_map_or (λ q. is_none (declaration s q)) o false) (sym p) ∙ sound.known x d e in
    by (place s parent) refl known
  where
    by : (o : Option ℕ) → place s parent ≡ o → is_none (declaration s parent) ≡ false → (j : ℕ) × (place s parent ≡ Some j)
    by None f k = absurd (let none : declaration s parent ≡ None = declaration_at s parent ∙ ap (entity_at s) f in let t : true ≡ false = ap is_none (sym none) ∙ k in cc)
    by (Some j) f k = (j, f)

-- the number of a declared entity
declared_at : (s : Schema) (name : List ℕ) (d : EntityDecl) → declaration s name ≡ Some d → (i : ℕ) × (place s name ≡ Some i) × (slice_get s i ≡ Some d)
declared_at s name d e = by (place s name) refl
  where
    by : (o : Option ℕ) → place s name ≡ o → (i : ℕ) × (place s name ≡ Some i) × (slice_get s i ≡ Some d)
    by None f = absurd (let n : None ≡ Some d = ap (entity_at s) (sym f) ∙ sym (declaration_at s name) ∙ e in cc)
    by (Some i) f = (i, f, ap (entity_at s) (sym f) ∙ sym (declaration_at s name) ∙ e)

pub kind_of_supertype : KindOfSupertype
unfolding is_kind_of
kind_of_supertype s types name parent d e f p =
    let whole : IsWhole s = is_whole s types e in
    let here = declared_at s name d f in
    let up = known_super s here.0 d parent whole.sound here.2 p in
    let first : step (parents_of s) here.0 ≡ Some up.0 = step_is s here.0 d here.2 ∙ ap (option_and_then (place s)) p ∙ up.1 in
    let one : lift (parents_of s) 1 (place s name) ≡ Some up.0 = ap (lift (parents_of s) 1) here.1 ∙ lift-suc (parents_of s) 0 (Some here.0) ∙ lift-zero (parents_of s) (step (parents_of s) here.0) ∙ first in
    let u : IsUp s name parent = record { steps = 1; number = up.0; up = one; there = up.1 } in
    rw (from_up s whole name parent u) (or_true (bytes_eq name parent))

no_parent : (s : Schema) (i : ℕ) (d : EntityDecl) → AreSound s → slice_get s i ≡ Some d → step (parents_of s) i ≡ None → d.parent ≡ None
no_parent s i d sound f g = by d.parent refl
  where
    by : (o : Option (List ℕ)) → d.parent ≡ o → d.parent ≡ None
    by None p = p
    by (Some parent) p =
        let up = known_super s i d parent sound f p in
        absurd (let n : None ≡ Some up.0 = sym g ∙ step_is s i d f ∙ ap (option_and_then (place s)) p ∙ up.1 in cc)

-- the way up from a number ends at an entity without a supertype
ends_at_top : (s : Schema) → AreSound s → (k i : ℕ) → i < length s → lift (parents_of s) k (Some i) ≡ None → EndsAtTop (upwards s k (entity_at s (Some i)))
ends_at_top s sound zero i h e = absurd (let n : Some i ≡ None = sym (lift-zero (parents_of s) (Some i)) ∙ e in cc)
ends_at_top s sound (suc k) i h e = by (slice_get s i) refl (step (parents_of s) i) refl (λ j l f. ends_at_top s sound k j l f)
  where
    by : (o : Option EntityDecl) → slice_get s i ≡ o → (q : Option ℕ) → step (parents_of s) i ≡ q → ((j : ℕ) → j < length s → lift (parents_of s) k (Some j) ≡ None → EndsAtTop (upwards s k (entity_at s (Some j)))) → EndsAtTop (upwards s (suc k) o)
    by None f q g rest = absurd (there_is s i h f)
    by (Some d) f None g rest =
        let none : upwards s k (supertype s d) ≡ [] = ap (upwards s k) (super_is s i d f ∙ ap (entity_at s) g) ∙ none_up s k in
        ([], d, ap (λ (l : List EntityDecl). d ∷ l) none, no_parent s i d sound f g)
    by (Some d) f (Some j) g rest =
        let r = rest j (step_number s i j g) (ap (lift (parents_of s) k) (sym g) ∙ sym (lift-suc (parents_of s) k (Some i)) ∙ e) in
        (d ∷ r.0, r.1, ap (λ (l : List EntityDecl). d ∷ l) (ap (upwards s k) (super_is s i d f ∙ ap (entity_at s) g) ∙ r.2), r.3)

pub ancestry_ends : AncestryEnds
ancestry_ends s types name d e f =
    let whole : IsWhole s = is_whole s types e in
    let here = declared_at s name d f in
    let inside : here.0 < length s = slice_get_within s here.0 d here.2 in
    let way : entity_at s (Some here.0) ≡ declaration s name = here.2 ∙ sym f in
    subst (λ o. EndsAtTop (upwards s (length s) o)) way (ends_at_top s whole.sound (length s) here.0 inside (whole.ends here.0 inside))

-- Names of attributes.

slot_names : (ds : List EntityDecl) (names : List (List ℕ)) → map (λ (a : AttrSlot). a.name) (map (λ attr. record { name = attr; derived = redeclares ds attr }) names) ≡ names
slot_names ds [] = refl
slot_names ds (n ∷ ns) = ap (λ l. n ∷ l) (slot_names ds ns)

-- the names of the attributes of an entity and its supertypes
abbrev names_up : Schema → Option EntityDecl → List (List ℕ)
names_up s o = own_names (reverse (all_up s o))

names_are : (s : Schema) (name : List ℕ) → attribute_names s name ≡ names_up s (declaration s name)
unfolding attributes
names_are s name = slot_names (ancestry s name) (own_names (reverse (ancestry s name)))

names_step : (s : Schema) → IsWhole s → (i : ℕ) (d : EntityDecl) → slice_get s i ≡ Some d → names_up s (Some d) ≡ names_up s (supertype s d) ++ d.own
names_step s whole i d e =
    ap (λ l. own_names (reverse l)) (all_up_step s whole i d e) ∙ own_names_up d (all_up s (supertype s d)) ∙ ap (λ l. names_up s (supertype s d) ++ l) (append-nil d.own)

pub own_attributes_last : OwnAttributesLast
own_attributes_last s types name parent d e f p =
    let whole : IsWhole s = is_whole s types e in
    let here = declared_at s name d f in
    names_are s name ∙ ap (names_up s) f ∙ names_step s whole here.0 d here.2
    ∙ ap (λ l. l ++ d.own) (ap (λ o. names_up s (option_and_then (declaration s) o)) p ∙ sym (names_are s parent))

names_far : (s : Schema) → IsWhole s → (k i x : ℕ) → i < length s → lift (parents_of s) k (Some i) ≡ Some x → StartsWith (names_up s (entity_at s (Some i))) (names_up s (entity_at s (Some x)))
names_far s whole zero i x h e =
    let same : Some i ≡ Some x = sym (lift-zero (parents_of s) (Some i)) ∙ e in
    ([], ap (λ o. names_up s (entity_at s o)) same ∙ sym (append-nil (names_up s (entity_at s (Some x)))))
names_far s whole (suc k) i x h e = by (slice_get s i) refl (step (parents_of s) i) refl (λ j l g. names_far s whole k j x l g)
  where
    by : (o : Option EntityDecl) → slice_get s i ≡ o → (q : Option ℕ) → step (parents_of s) i ≡ q
        → ((j : ℕ) → j < length s → lift (parents_of s) k (Some j) ≡ Some x → StartsWith (names_up s (entity_at s (Some j))) (names_up s (entity_at s (Some x))))
        → StartsWith (names_up s (entity_at s (Some i))) (names_up s (entity_at s (Some x)))
    by None f q g rest = absurd (there_is s i h f)
    by (Some d) f None g rest =
        absurd (let n : None ≡ Some x = sym (lift-none (parents_of s) k) ∙ ap (lift (parents_of s) k) (sym g) ∙ sym (lift-suc (parents_of s) k (Some i)) ∙ e in cc)
    by (Some d) f (Some j) g rest =
        let r = rest j (step_number s i j g) (ap (lift (parents_of s) k) (sym g) ∙ sym (lift-suc (parents_of s) k (Some i)) ∙ e) in
        let front : List (List ℕ) = names_up s (entity_at s (Some x)) in (
          r.0 ++ d.own,
          ap (names_up s) f ∙ names_step s whole i d f ∙ ap (λ o. names_up s o ++ d.own) (super_is s i d f ∙ ap (entity_at s) g)
              ∙ ap (λ l. l ++ d.own) r.1 ∙ append_assoc front r.0 d.own,
        )

pub inherited_first : InheritedFirst
unfolding is_kind_of
inherited_first s types a b e h =
    ⊎_elim
    (λ same. let n : a ≡ b = (bytes_eq-Decides a b).0 same in ([], ap (attribute_names s) n ∙ sym (append-nil (attribute_names s b))))
    (λ up.
    let whole : IsWhole s = is_whole s types e in
    let u : IsUp s a b = up_from s whole a b up in
    let there : names_up s (declaration s b) ≡ names_up s (entity_at s (Some u.number)) = ap (names_up s) (declaration_at s b ∙ ap (entity_at s) u.there) in
    let r = from s whole a u in
    (r.0, names_are s a ∙ ap (names_up s) (declaration_at s a) ∙ r.1 ∙ ap (λ l. l ++ r.0) (sym there ∙ sym (names_are s b))))
    (any_or (bytes_eq a b) (list_any (λ d. bytes_eq d.name b) (ancestry s a)) h)
  where
    from : (s : Schema) → IsWhole s → (a : List ℕ) {b : List ℕ} (u : IsUp s a b) → StartsWith (names_up s (entity_at s (place s a))) (names_up s (entity_at s (Some u.number)))
    from s whole a u = by (place s a) refl
      where
        by : (o : Option ℕ) → place s a ≡ o → StartsWith (names_up s (entity_at s o)) (names_up s (entity_at s (Some u.number)))
        by None f = absurd (let n : None ≡ Some u.number = sym (lift-none (parents_of s) u.steps) ∙ ap (lift (parents_of s) u.steps) (sym f) ∙ u.up in cc)
        by (Some i) f = names_far s whole u.steps i u.number (place_number s a i f) (ap (lift (parents_of s) u.steps) (sym f) ∙ u.up)

first_of_names : (attr : List ℕ) (xs : List AttrSlot) → position_or_len (λ a. bytes_eq a.name attr) xs ≡ position_or_len (λ n. bytes_eq n attr) (map (λ a. a.name) xs)
first_of_names attr [] = refl
first_of_names attr (x ∷ xs) = rw (first_of_names attr xs) refl

pub place_by_names : (attr : List ℕ) (xs : List AttrSlot) → position (λ a. bytes_eq a.name attr) xs ≡ position (λ n. bytes_eq n attr) (map (λ a. a.name) xs)
place_by_names attr xs =
    let names : List (List ℕ) = map (λ (a : AttrSlot). a.name) xs in
    ap (λ k. cond (nat_lt k (length xs)) (Some k) None) (first_of_names attr xs)
    ∙ ap (λ n. cond (nat_lt (position_or_len (λ m. bytes_eq m attr) names) n) (Some (position_or_len (λ m. bytes_eq m attr) names)) None) (sym (length-map xs (λ (a : AttrSlot). a.name)))

pub places_are_inherited : PlacesAreInherited
unfolding place_of
places_are_inherited s types a b attr k e h f =
    let more = inherited_first s types a b e h in
    let at : position (λ n. bytes_eq n attr) (attribute_names s b) ≡ Some k = sym (place_by_names attr (attributes s b)) ∙ f in
    place_by_names attr (attributes s a) ∙ ap (position (λ n. bytes_eq n attr)) more.1 ∙ place_in_front (λ n. bytes_eq n attr) (attribute_names s b) more.0 k at

pub fitting_has_its_parameters : FittingHasItsParameters
unfolding instance_fault
fitting_has_its_parameters s x e =
    let known = no_fault (unknown_fault s x) _ e in
    let concrete = no_fault (abstract_fault s x) (params_fault (attributes s x.entity) x.params) known.1 in
    let counted = no_fault (count_fault (attributes s x.entity) x.params) (derived_fault (attributes s x.entity) x.params) concrete.1 in
    by (length x.params == length (attributes s x.entity)) refl (ParamCount _ _) counted.0
  where
    by : (b : Bool) → length x.params == length (attributes s x.entity) ≡ b → (f : InstanceFault) → (if b then None else Some f) ≡ None → length x.params ≡ length (attributes s x.entity)
    by true g f h = eqb-true (length x.params) (length (attributes s x.entity)) g
    by false g f h = absurd (cc)
