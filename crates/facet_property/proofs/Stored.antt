-- Ordered sets of texts: which are stored once one more is put in.
use Rattle.std.proofs.Common.{◌≡◌, ◌<◌, ◌+◌, ℕ, List, [], ◌∷◌, ◌++◌, Bool, true, false, not, ◌&&◌, ◌||◌, length, take, get_or, refl, sym, ap, ◌∙◌, encode_utf8_all}
use Rattle.std.specs.Borrow.{Bor}
use Rattle.std.specs.List.{list_any, list_all, filter}
use Rattle.std.specs.Str.{bytes_eq}
use Rattle.std.specs.BTreeSet.{insert_key}
use Rattle.std.specs.Ordering.{nat_cmp, ordering_then, is_eq, match_ordering}
use Rattle.std.specs.declared.cmp.Ordering.{Ordering}
use Rattle.std.specs.declared.cmp.Ordering.TheVariants.{Less, Equal, Greater}
use Rattle.std.specs.Cmp.Lexicographic.{slice_cmp, texts_ties}
use Rattle.std.proofs.lemmas.List.{take_more, map-append}
use Rattle.std.proofs.lemmas.List.Folds.{list_any-append}
use Rattle.std.proofs.lemmas.Slice.Eq.{bytes_eq-Decides}
use Rattle.ifc_base.specs.NameOrder.{name_ties}
use Rattle.audit_model.specs.Properties.{Property, have_same_names, with_inherited}
use Rattle.facet_property.specs.declared.find.Found.{Found}
use Rattle.facet_property.specs.Held.{is_text, are_texts, HasTexts, HasNames, texts_of, property_of, properties_of}
use Rattle.facet_property.proofs.Three.{map_filtered}

or_twice : (a b c : Bool) → a ≡ b → (b || c) ≡ (a || (b || c))
or_twice true true c e = refl
or_twice true false c e = absurd (cc)
or_twice false b c e = refl

or_turn : (a b c : Bool) → (a || (b || c)) ≡ (b || (a || c))
or_turn true true c = refl
or_turn true false c = refl
or_turn false b c = refl

or_swap : (a b : Bool) → (a || b) ≡ (b || (a || false))
or_swap true true = refl
or_swap true false = refl
or_swap false true = refl
or_swap false false = refl

module _ {K : Type 0} (cmp : K → K → Ordering) (found : K → Bool) (same : (k x : K) → cmp k x ≡ Equal → found k ≡ found x) where
  at_place : (o : Ordering) (k x : K) (xs ys : List K) → cmp k x ≡ o → list_any found ys ≡ (found k || list_any found xs)
      → list_any found (match_ordering o (k ∷ x ∷ xs) (x ∷ xs) (x ∷ ys)) ≡ (found k || (found x || list_any found xs))
  at_place Less k x xs ys e h = refl
  at_place Equal k x xs ys e h = or_twice (found k) (found x) (list_any found xs) (same k x e)
  at_place Greater k x xs ys e h = ap (λ b. found x || b) h ∙ or_turn (found x) (found k) (list_any found xs)

  inserted : (k : K) (xs : List K) → list_any found (insert_key cmp xs k) ≡ (found k || list_any found xs)
  inserted k [] = refl
  inserted k (x ∷ xs) = at_place (cmp k x) k x xs (insert_key cmp xs k) refl (inserted k xs)

-- texts of which neither comes first are one
same_bytes : (xs ys : List ℕ) → slice_cmp nat_cmp xs ys ≡ Equal → xs ≡ ys
same_bytes xs ys e = (bytes_eq-Decides xs ys).0 (texts_ties xs ys ∙ ap is_eq e)

both_equal : (o q : Ordering) → ordering_then o q ≡ Equal → (o ≡ Equal) × (q ≡ Equal)
both_equal Less q e = absurd (cc)
both_equal Equal q e = (refl, e)
both_equal Greater q e = absurd (cc)

both_are : (o q : Ordering) → is_eq (ordering_then o q) ≡ (is_eq o && is_eq q)
both_are Less q = refl
both_are Equal q = refl
both_are Greater q = refl

-- One text each.

abbrev text_cmp : Bor (List ℕ) → Bor (List ℕ) → Ordering
text_cmp x y = slice_cmp nat_cmp x.now y.now

pub text_stored : (keys after : List (Bor (List ℕ))) (k : Bor (List ℕ)) (names : List (Bor (List ℕ))) (i : ℕ) (n : Bor (List ℕ)) → i < length names → n ≡ get_or names i n
    → after ≡ insert_key text_cmp keys k → k.now ≡ encode_utf8_all n.now → HasTexts keys (texts_of (take i names)) → HasTexts after (texts_of (take (i + 1) names))
text_stored keys after k names i n l at e t h a =
    let ts : List (List ℕ) = texts_of (take i names) in
    let more : texts_of (take (i + 1) names) ≡ ts ++ n.now ∷ [] =
    ap texts_of (take_more names i n l ∙ ap (λ m. take i names ++ m ∷ []) (sym at)) ∙ map-append (λ (r : Bor (List ℕ)). r.now) (take i names) (n ∷ []) in
    let stored : is_text a k ≡ bytes_eq a n.now = ap (λ bs. is_eq (slice_cmp nat_cmp (encode_utf8_all a) bs)) t ∙ sym (name_ties a n.now) in
    ap (list_any (is_text a)) e
    ∙ inserted text_cmp (is_text a) (λ x y q. ap (λ bs. is_eq (slice_cmp nat_cmp (encode_utf8_all a) bs)) (same_bytes x.now y.now q)) k keys
    ∙ ap (λ b. b || list_any (is_text a) keys) stored
    ∙ ap (λ b. bytes_eq a n.now || b) (h a)
    ∙ or_swap (bytes_eq a n.now) (list_any (bytes_eq a) ts)
    ∙ sym (list_any-append (bytes_eq a) ts (n.now ∷ []))
    ∙ ap (list_any (bytes_eq a)) (sym more)

pub text_found : (keys : List (Bor (List ℕ))) (a x : List ℕ) → x ≡ encode_utf8_all a → list_any (λ (k : Bor (List ℕ)). is_eq (slice_cmp nat_cmp x k.now)) keys ≡ list_any (is_text a) keys
text_found keys a x e = ap (λ bs. list_any (λ (k : Bor (List ℕ)). is_eq (slice_cmp nat_cmp bs k.now)) keys) e

-- each of the names is stored
pub among_texts : (keys : List (Bor (List ℕ))) (ts : List (List ℕ)) (names : List (Bor (List ℕ))) → HasTexts keys ts
    → list_all (λ (n : Bor (List ℕ)). list_any (is_text n.now) keys) names ≡ list_all (λ n. list_any (bytes_eq n) ts) (texts_of names)
among_texts keys ts [] h = refl
among_texts keys ts (n ∷ ns) h =
    ap (λ b. b && list_all (λ (m : Bor (List ℕ)). list_any (is_text m.now) keys) ns) (h n.now)
    ∙ ap (λ b. list_any (bytes_eq n.now) ts && b) (among_texts keys ts ns h)

-- Two texts each.

abbrev Both : Type 0
Both = Bor (List ℕ) × Bor (List ℕ)

abbrev both_cmp : Both → Both → Ordering
both_cmp x y = ordering_then (slice_cmp nat_cmp x.0.now y.0.now) (slice_cmp nat_cmp x.1.now y.1.now)

same_both : (a b : List ℕ) (x y : Both) → both_cmp x y ≡ Equal → are_texts a b x ≡ are_texts a b y
same_both a b x y e =
    let q = both_equal (slice_cmp nat_cmp x.0.now y.0.now) (slice_cmp nat_cmp x.1.now y.1.now) e in
    ap (λ bs. is_eq (ordering_then (slice_cmp nat_cmp (encode_utf8_all a) bs) (slice_cmp nat_cmp (encode_utf8_all b) x.1.now))) (same_bytes x.0.now y.0.now q.0)
    ∙ ap (λ bs. is_eq (ordering_then (slice_cmp nat_cmp (encode_utf8_all a) y.0.now) (slice_cmp nat_cmp (encode_utf8_all b) bs))) (same_bytes x.1.now y.1.now q.1)

pub names_stored : (keys after : List Both) (k : Both) (own : List Found) (i : ℕ) (p : Found) → i < length own → p ≡ get_or own i p
    → after ≡ insert_key both_cmp keys k → k.0.now ≡ encode_utf8_all p.set.now → k.1.now ≡ encode_utf8_all p.name.now → HasNames keys (properties_of (take i own)) → HasNames after (properties_of (take (i + 1) own))
names_stored keys after k own i p l at e t u h a b =
    let ps : List Property = properties_of (take i own) in
    let test : Property → Bool = λ q. bytes_eq a q.set_name && bytes_eq b q.name in
    let more : properties_of (take (i + 1) own) ≡ ps ++ property_of p ∷ [] =
    ap properties_of (take_more own i p l ∙ ap (λ m. take i own ++ m ∷ []) (sym at)) ∙ map-append property_of (take i own) (p ∷ []) in
    let stored : are_texts a b k ≡ test (property_of p) =
    both_are (slice_cmp nat_cmp (encode_utf8_all a) k.0.now) (slice_cmp nat_cmp (encode_utf8_all b) k.1.now)
    ∙ ap (λ bs. is_eq (slice_cmp nat_cmp (encode_utf8_all a) bs) && is_eq (slice_cmp nat_cmp (encode_utf8_all b) k.1.now)) t
    ∙ ap (λ bs. is_eq (slice_cmp nat_cmp (encode_utf8_all a) (encode_utf8_all p.set.now)) && is_eq (slice_cmp nat_cmp (encode_utf8_all b) bs)) u
    ∙ ap (λ c. c && is_eq (slice_cmp nat_cmp (encode_utf8_all b) (encode_utf8_all p.name.now))) (sym (name_ties a p.set.now))
    ∙ ap (λ c. bytes_eq a p.set.now && c) (sym (name_ties b p.name.now)) in
    ap (list_any (are_texts a b)) e
    ∙ inserted both_cmp (are_texts a b) (same_both a b) k keys
    ∙ ap (λ c. c || list_any (are_texts a b) keys) stored
    ∙ ap (λ c. test (property_of p) || c) (h a b)
    ∙ or_swap (test (property_of p)) (list_any test ps)
    ∙ sym (list_any-append test ps (property_of p ∷ []))
    ∙ ap (list_any test) (sym more)

pub names_found : (keys : List Both) (a b x y : List ℕ) → x ≡ encode_utf8_all a → y ≡ encode_utf8_all b
    → list_any (λ (k : Both). is_eq (ordering_then (slice_cmp nat_cmp x k.0.now) (slice_cmp nat_cmp y k.1.now))) keys ≡ list_any (are_texts a b) keys
names_found keys a b x y e h =
    ap (λ bs. list_any (λ (k : Both). is_eq (ordering_then (slice_cmp nat_cmp bs k.0.now) (slice_cmp nat_cmp y k.1.now))) keys) e
    ∙ ap (λ bs. list_any (λ (k : Both). is_eq (ordering_then (slice_cmp nat_cmp (encode_utf8_all a) k.0.now) (slice_cmp nat_cmp bs k.1.now))) keys) h

-- those whose names aren't stored, after the own ones
pub unhidden : (keys : List Both) (own inherited all : List Found) → HasNames keys (properties_of own)
    → all ≡ own ++ filter (λ (q : Found). not (list_any (are_texts q.set.now q.name.now) keys)) inherited → properties_of all ≡ with_inherited (properties_of own) (properties_of inherited)
unhidden keys own inherited all h e =
    ap properties_of e
    ∙ map-append property_of own (filter (λ (q : Found). not (list_any (are_texts q.set.now q.name.now) keys)) inherited)
    ∙ ap (λ zs. properties_of own ++ zs)
    (map_filtered (λ q. not (list_any (have_same_names q) (properties_of own))) (λ (q : Found). not (list_any (are_texts q.set.now q.name.now) keys)) property_of (λ q. ap not (h q.set.now q.name.now)) inherited)
