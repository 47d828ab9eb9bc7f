-- What the rounds of the code make of a walk.
use Rattle.std.proofs.Common.{◌≡◌, ℕ, suc, ◌+◌, ◌<◌, ◌≤◌, ◌==◌, nat_lt, cond, List, [], ◌∷◌, ◌++◌, length, get_or, take, Bool, true, false, refl, ap, sym, subst, ◌∙◌, inl, inr, arith}
use Rattle.std.specs.List.{flat_map}
use Rattle.std.specs.BTreeSet.{insert_key}
use Rattle.std.specs.Ordering.{nat_cmp, match_ordering}
use Rattle.std.specs.declared.cmp.Ordering.TheVariants.{Less, Equal, Greater}
use Rattle.std.proofs.lemmas.List.{take_more}
use Rattle.ifc_base.specs.declared.key.Key.{Key}
use Rattle.ifc_base.specs.declared.key.Key.TheVariants.{Inst}
use Rattle.audit_model.specs.Keys.{Sight}
use Rattle.audit_model.specs.Reading.{Reading}
use Rattle.audit_model.specs.Ascending.{insert, union, ascending}
use Rattle.audit_model.specs.Closures.{reached, closure}
use Rattle.closure_walk.specs.Walking.{In, SameKeys, Walking, IsFresh}
use Rattle.closure_walk.proofs.Members.{in_first, in_last, in_parts, in_flat, flat_in, in_insert, insert_in}
use Rattle.closure_walk.proofs.Walks.{ends_of, looks_of, walking_more, walking_end, walking_start}

-- Members, one more.

same_at : (a b : Bool) (i x : ℕ) (xs ys : List ℕ) → match_ordering (cond a Less (cond b Equal Greater)) (i ∷ x ∷ xs) (x ∷ xs) (x ∷ ys) ≡ cond a (i ∷ x ∷ xs) (cond b (x ∷ xs) (x ∷ ys))
same_at true b i x xs ys = refl
same_at false true i x xs ys = refl
same_at false false i x xs ys = refl

pub insert_same : (i : ℕ) (xs : List ℕ) → insert_key nat_cmp xs i ≡ insert i xs
insert_same i [] = refl
insert_same i (x ∷ xs) = same_at (nat_lt i x) (i == x) i x xs (insert_key nat_cmp xs i) ∙ ap (λ ys. cond (nat_lt i x) (i ∷ x ∷ xs) (cond (i == x) (x ∷ xs) (x ∷ ys))) (insert_same i xs)

pub union_more : (xs ys : List ℕ) (y : ℕ) → union xs (ys ++ y ∷ []) ≡ insert y (union xs ys)
union_more xs [] y = refl
union_more xs (z ∷ ys) y = union_more (insert z xs) ys y

pub members_more : (before members after ids : List ℕ) (i x : ℕ) → i < length ids → x ≡ get_or ids i x → members ≡ union before (take i ids) → after ≡ insert_key nat_cmp members x → after ≡ union before (take (i + 1) ids)
members_more before members after ids i x l at m a =
    a ∙ insert_same x members ∙ ap (λ xs. insert x xs) m ∙ sym (union_more before (take i ids) x) ∙ ap (λ xs. union before xs) (ap (λ y. take i ids ++ y ∷ []) at ∙ sym (take_more ids i x l))

pub fresh_added : (before members after fresh : List ℕ) (x : ℕ) → after ≡ insert_key nat_cmp members x → IsFresh before members fresh → IsFresh before after (fresh ++ x ∷ [])
fresh_added before members after fresh x a f =
    let e : after ≡ insert x members = a ∙ insert_same x members in
    record {
      in_after = λ y h. subst (λ xs. In y xs) (sym e) (insert_in y x members (elim (in_parts y fresh (x ∷ []) h) [
        | inl g ↦ inr (f.in_after y g)
        | inr g ↦ elim g [ inl k ↦ inl k | inr k ↦ absurd k ]
      ]));
      is_new = λ y h. elim (in_insert y x members (subst (λ xs. In y xs) e h)) [
        | inl g ↦ inr (in_last y fresh (x ∷ []) (inl g))
        | inr g ↦ elim (f.is_new y g) [ inl k ↦ inl k | inr k ↦ inr (in_first y fresh (x ∷ []) k) ]
      ];
    }

pub fresh_kept : (before members after fresh : List ℕ) → after ≡ members → IsFresh before members fresh → IsFresh before after fresh
fresh_kept before members after fresh e f = subst (λ xs. IsFresh before xs fresh) (sym e) f

-- Rounds.

module _ (step : ℕ → Reading (List ℕ)) (v : Sight) (starts : List ℕ) where
  pub start_at : (empty members fresh : List ℕ) (before : List Key) → empty ≡ [] → members ≡ union empty starts → IsFresh empty members fresh → Walking step v starts 0 members fresh before before
  start_at empty members fresh before e m f =
      let m' : members ≡ ascending starts = m ∙ ap (λ xs. union xs starts) e in
      subst (λ xs. Walking step v starts 0 xs fresh before before) (sym m') (walking_start step v starts fresh before
      (λ x h. elim (f.is_new x (subst (λ xs. In x xs) (sym m') h)) [ inl a ↦ absurd (subst (λ xs. In x xs) e a) | inr b ↦ b ])
      (λ x h. subst (λ xs. In x xs) m' (f.in_after x h)))

  pub more_at : (n : ℕ) (members fresh ends after next : List ℕ) (before reads later : List Key) → Walking step v starts n members fresh before reads → ends ≡ flat_map (λ x. (step x).answer v) fresh → after ≡ union members ends → IsFresh members after next → later ≡ reads ++ flat_map (λ x. (step x).keys v) fresh → Walking step v starts (n + 1) after next before later
  more_at n members fresh ends after next before reads later w e a f l =
      let s : n + 1 ≡ suc n = omega arith in
      let a' : after ≡ union members (flat_map (ends_of step v starts) fresh) = a ∙ ap (λ xs. union members xs) e in
      let made : Walking step v starts (suc n) (union members (flat_map (ends_of step v starts) fresh)) next before (reads ++ flat_map (looks_of step v starts) fresh) = walking_more step v starts n members fresh next before reads w
      (λ x h. subst (λ xs. In x xs) a' (f.in_after x h))
      (λ x h. f.is_new x (subst (λ xs. In x xs) (sym a') h)) in
      rw (s, a', l) made

  pub end_at : (m n : ℕ) (members fresh : List ℕ) (before reads : List Key) → m ≤ n → fresh ≡ [] → Walking step v starts m members fresh before reads → Walking step v starts n members fresh before reads
  end_at m n members fresh before reads l e w =
      subst (λ xs. Walking step v starts n members xs before reads) (sym e) (walking_end step v starts m n members before reads l (subst (λ xs. Walking step v starts m members xs before reads) e w))

  pub closed : (most : ℕ) (members left : List ℕ) (before reads later : List Key) → ((n : ℕ) → In (Inst n) ((step n).keys v)) → Walking step v starts most members left before reads → later ≡ reads ++ flat_map (λ x. Inst x ∷ []) left → SameKeys later (before ++ (closure most step starts).keys v)
  closed most members left before reads later stands w l k =
      let ends : List ℕ = (reached step most starts).answer v in
      let looks : List Key = (reached step most starts).keys v in
      let stood : ℕ → List Key = λ x. Inst x ∷ [] in (
        λ h. elim (in_parts k reads (flat_map stood left) (subst (λ ks. In k ks) l h)) [
          | inl a ↦ elim (w.only k a) [
            | inl b ↦ in_first k before _ b
            | inr c ↦ in_last k before _ (in_first k looks (flat_map stood ends ++ []) c)
          ]
          | inr a ↦ let r = in_flat stood left k a in
              in_last k before _ (in_last k looks (flat_map stood ends ++ []) (in_first k (flat_map stood ends) [] (flat_in stood ends r.at k (subst (λ xs. In r.at xs) w.is_reached (w.fresh_in r.at r.is_in)) r.gives)))
        ],
        λ h. subst (λ ks. In k ks) (sym l) (elim (in_parts k before (looks ++ (flat_map stood ends ++ [])) h) [
          | inl a ↦ in_first k reads (flat_map stood left) (w.kept k a)
          | inr a ↦ elim (in_parts k looks (flat_map stood ends ++ []) a) [
            | inl b ↦ in_first k reads (flat_map stood left) (w.all k b)
            | inr b ↦ elim (in_parts k (flat_map stood ends) [] b) [
              | inl c ↦ let r = in_flat stood ends k c in
                  elim (w.done r.at (subst (λ xs. In r.at xs) (sym w.is_reached) r.is_in)) [
                    | inl d ↦ in_last k reads (flat_map stood left) (flat_in stood left r.at k d r.gives)
                    | inr d ↦ in_first k reads (flat_map stood left) (elim r.gives [
                      | inl e ↦ subst (λ z. In z reads) (sym e) (d.looks (Inst r.at) (stands r.at))
                      | inr e ↦ absurd e
                    ])
                  ]
              | inr c ↦ absurd c
            ]
          ]
        ]),
      )

pub empty_from_length : (xs : List ℕ) → length xs ≡ 0 → xs ≡ []
empty_from_length [] e = refl
empty_from_length (x ∷ xs) e = absurd (omega (arith, e))
