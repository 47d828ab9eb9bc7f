-- Keys looked at, in whatever order and however often.
use Rattle.std.proofs.Common.{◌≡◌, ◌<◌, ◌+◌, ℕ, List, [], ◌∷◌, ◌++◌, Bool, true, false, ◌||◌, length, take, get_or, map, refl, ap, sym, subst, ◌∙◌, inl, inr}
use Rattle.std.specs.List.{flat_map, list_any}
use Rattle.std.proofs.lemmas.List.{append-nil, map-append, take_more}
use Rattle.std.proofs.lemmas.List.Folds.{list_any-append}
use Rattle.ifc_base.specs.declared.key.Key.{Key}
use Rattle.audit_model.specs.Keys.{Sight}
use Rattle.closure_walk.specs.Walking.{In, SameKeys}
use Rattle.closure_walk.proofs.Members.{in_first, in_last, in_parts, in_flat, flat_in}
use Rattle.audit_model.specs.Reading.{Reading, told, stand, visit, gather, ◌>>=◌}
use Rattle.audit_model.specs.Closures.{closure, reached}
use Rattle.facet_paths.specs.Reads.{Appends, Reads}

pub same_self : (ks : List Key) → SameKeys ks ks
same_self ks k = (λ h. h, λ h. h)

pub same_is : (ks ls : List Key) → ks ≡ ls → SameKeys ks ls
same_is ks ls e = subst (λ xs. SameKeys ks xs) e (same_self ks)

-- further keys that were looked at already
pub same_more : (b a ks ls : List Key) → SameKeys b (a ++ ks) → ((k : Key) → In k ls → In k ks) → SameKeys b (a ++ (ks ++ ls))
same_more b a ks ls h f k = (
  λ i. elim (in_parts k a ks ((h k).0 i)) [ inl j ↦ in_first k a (ks ++ ls) j | inr j ↦ in_last k a (ks ++ ls) (in_first k ks ls j) ],
  λ i. (h k).1 (elim (in_parts k a (ks ++ ls) i) [
    | inl j ↦ in_first k a ks j
    | inr j ↦ elim (in_parts k ks ls j) [ inl m ↦ in_last k a ks m | inr m ↦ in_last k a ks (f k m) ]
  ]),
)

pub same_then : (b a ks ls : List Key) → SameKeys b (a ++ ks) → SameKeys ks ls → SameKeys b (a ++ ls)
same_then b a ks ls h f k = (
  λ i. elim (in_parts k a ks ((h k).0 i)) [ inl j ↦ in_first k a ls j | inr j ↦ in_last k a ls ((f k).0 j) ],
  λ i. (h k).1 (elim (in_parts k a ls i) [ inl j ↦ in_first k a ks j | inr j ↦ in_last k a ks ((f k).1 j) ]),
)

-- what one more of a list looks at
pub same_step : {X : Type 0} (f : X → List Key) (xs : List X) (x : X) (a b c : List Key) → SameKeys b (a ++ flat_map f xs) → SameKeys c (b ++ f x) → SameKeys c (a ++ flat_map f (xs ++ x ∷ []))
same_step f xs x a b c h g k = (
  λ i. elim (in_parts k b (f x) ((g k).0 i)) [
    | inl j ↦ elim (in_parts k a (flat_map f xs) ((h k).0 j)) [
      | inl m ↦ in_first k a _ m
      | inr m ↦ let r = in_flat f xs k m in in_last k a _ (flat_in f (xs ++ x ∷ []) r.at k (in_first r.at xs (x ∷ []) r.is_in) r.gives)
    ]
    | inr j ↦ in_last k a _ (flat_in f (xs ++ x ∷ []) x k (in_last x xs (x ∷ []) (inl refl)) j)
  ],
  λ i. (g k).1 (elim (in_parts k a (flat_map f (xs ++ x ∷ [])) i) [
    | inl j ↦ in_first k b (f x) ((h k).1 (in_first k a (flat_map f xs) j))
    | inr j ↦ let r = in_flat f (xs ++ x ∷ []) k j in
        elim (in_parts r.at xs (x ∷ []) r.is_in) [
          | inl m ↦ in_first k b (f x) ((h k).1 (in_last k a (flat_map f xs) (flat_in f xs r.at k m r.gives)))
          | inr m ↦ elim m [ inl e ↦ in_last k b (f x) (subst (λ z. In k (f z)) e r.gives) | inr e ↦ absurd e ]
        ]
  ]),
)

pub same_next : {X : Type 0} (f : X → List Key) (xs : List X) (i : ℕ) (x : X) (a b c : List Key) → i < length xs → x ≡ get_or xs i x → SameKeys b (a ++ flat_map f (take i xs)) → SameKeys c (b ++ f x) → SameKeys c (a ++ flat_map f (take (i + 1) xs))
same_next f xs i x a b c l e h g =
    subst (λ ys. SameKeys c (a ++ flat_map f ys)) (ap (λ y. take i xs ++ y ∷ []) e ∙ sym (take_more xs i x l)) (same_step f (take i xs) x a b c h g)

-- whether a test holds of something seen at one of a list, and of one more
or_false : (b : Bool) → (b || false) ≡ b
or_false true = refl
or_false false = refl

pub any_next : {X Y : Type 0} (p : Y → Bool) (f : X → Y) (xs : List X) (i : ℕ) (x : X) → i < length xs → x ≡ get_or xs i x → list_any p (map f (take (i + 1) xs)) ≡ (list_any p (map f (take i xs)) || p (f x))
any_next p f xs i x l e =
    ap (λ ys. list_any p (map f ys)) (take_more xs i x l ∙ ap (λ y. take i xs ++ y ∷ []) (sym e))
    ∙ ap (list_any p) (map-append f (take i xs) (x ∷ []))
    ∙ list_any-append p (map f (take i xs)) (f x ∷ [])
    ∙ ap (λ b. list_any p (map f (take i xs)) || b) (or_false (p (f x)))

pub any_seen : {X Y : Type 0} (p : Y → Bool) (f : X → Y) (xs : List X) → list_any (λ x. p (f x)) xs ≡ list_any p (map f xs)
any_seen p f [] = refl
any_seen p f (x ∷ xs) = ap (λ b. p (f x) || b) (any_seen p f xs)

-- collected apart, and appended in the end
pub same_after : (r old own ks : List Key) → r ≡ old ++ own → SameKeys own ([] ++ ks) → SameKeys r (old ++ ks)
same_after r old own ks e h = same_then r old own ks (same_is r (old ++ own) e) h

pub told_read : {A : Type 0} (x w : A) (v : Sight) (ks : List Key) → w ≡ x → Reads (told x) v w ks ks
told_read x w v ks e = record { answer_is = e; reads_same = same_is ks (ks ++ []) (sym (append-nil ks)) }

pub appends_read : (r : Reading (List ℕ)) (v : Sight) (ends : List ℕ) (a b : List Key) → Appends r v [] ends a b → Reads r v ends a b
appends_read r v ends a b h = record { answer_is = h.ends_are; reads_same = same_is b _ h.reads_are }

-- standing once more on ends on which the path stands already
pub stands_more : (r : Reading (List ℕ)) (ids : List ℕ) (v : Sight) (a b : List Key) → Reads r v ids a b → ((k : Key) → In k (flat_map (λ x. (stand x).keys v) (r.answer v)) → In k (r.keys v)) → Reads (r >>= visit stand) v (map v.instance ids) a b
stands_more r ids v a b h f = record {
  answer_is = ap (λ xs. map v.instance xs) h.answer_is;
  reads_same = same_more b a (r.keys v) (flat_map (λ x. (stand x).keys v) (r.answer v)) h.reads_same f;
}

pub closure_stands : (n : ℕ) (step : ℕ → Reading (List ℕ)) (starts : List ℕ) (v : Sight) (k : Key) → In k (flat_map (λ x. (stand x).keys v) ((closure n step starts).answer v)) → In k ((closure n step starts).keys v)
closure_stands n step starts v k i =
    let stood : List Key = flat_map (λ x. (stand x).keys v) ((reached step n starts).answer v) in
    in_last k ((reached step n starts).keys v) (stood ++ []) (in_first k stood [] i)

pub stands_again : (n : ℕ) (step : ℕ → Reading (List ℕ)) (starts ids : List ℕ) (v : Sight) (a b : List Key) → ids ≡ (closure n step starts).answer v → SameKeys b (a ++ (closure n step starts).keys v)
    → Reads (closure n step starts >>= visit stand) v (map v.instance ids) a b
stands_again n step starts ids v a b e h = stands_more (closure n step starts) ids v a b (record { answer_is = e; reads_same = h }) (closure_stands n step starts v)

-- from each of a list, or first from all of them
module _ {A B C : Type 0} (m : A → Reading (List B)) (g : B → Reading C) (v : Sight) where
  pub gathered : (ts : List A) → flat_map (λ t. map (λ x. (g x).answer v) ((m t).answer v)) ts ≡ map (λ x. (g x).answer v) (flat_map (λ t. (m t).answer v) ts)
  gathered [] = refl
  gathered (t ∷ ts) = ap (λ ys. map (λ x. (g x).answer v) ((m t).answer v) ++ ys) (gathered ts) ∙ sym (map-append (λ x. (g x).answer v) ((m t).answer v) (flat_map (λ t. (m t).answer v) ts))

  pub gathers : (ts : List A) → SameKeys ((gather m ts >>= visit g).keys v) ((gather (λ t. m t >>= visit g) ts).keys v)
  gathers ts k =
      let keys : B → List Key = λ x. (g x).keys v in
      let ends : A → List B = λ t. (m t).answer v in
      let hops : A → List Key = λ t. (m t).keys v in
      let both : A → List Key = λ t. hops t ++ flat_map keys (ends t) in (
        λ i. elim (in_parts k (flat_map hops ts) (flat_map keys (flat_map ends ts)) i) [
          | inl j ↦ let r = in_flat hops ts k j in flat_in both ts r.at k r.is_in (in_first k (hops r.at) (flat_map keys (ends r.at)) r.gives)
          | inr j ↦ let r = in_flat keys (flat_map ends ts) k j in
              let q = in_flat ends ts r.at r.is_in in
              flat_in both ts q.at k q.is_in (in_last k (hops q.at) (flat_map keys (ends q.at)) (flat_in keys (ends q.at) r.at k q.gives r.gives))
        ],
        λ i. let r = in_flat both ts k i in
            elim (in_parts k (hops r.at) (flat_map keys (ends r.at)) r.gives) [
              | inl j ↦ in_first k (flat_map hops ts) _ (flat_in hops ts r.at k r.is_in j)
              | inr j ↦ let q = in_flat keys (ends r.at) k j in
                  in_last k (flat_map hops ts) _ (flat_in keys (flat_map ends ts) q.at k (flat_in ends ts r.at q.at r.is_in q.is_in) q.gives)
            ],
      )

  pub first_from_all : (ts : List A) (ys : List C) (a b : List Key) → Reads (gather m ts >>= visit g) v ys a b → Reads (gather (λ t. m t >>= visit g) ts) v ys a b
  first_from_all ts ys a b r = record {
    answer_is = r.answer_is ∙ sym (gathered ts);
    reads_same = same_then b a _ _ r.reads_same (gathers ts);
  }
