-- A walk that steps from each id once comes to the closure.
use Rattle.std.proofs.Common.{◌≡◌, ℕ, zero, suc, ◌≤◌, List, [], ◌++◌, refl, ap, sym, subst, ◌∙◌, inl, inr, ◌⊎◌, arith}
use Rattle.std.specs.List.{flat_map}
use Rattle.std.proofs.lemmas.Bool.{cases_lt}
use Rattle.ifc_base.specs.declared.key.Key.{Key}
use Rattle.audit_model.specs.Keys.{Sight}
use Rattle.audit_model.specs.Reading.{Reading}
use Rattle.audit_model.specs.Ascending.{union, ascending}
use Rattle.audit_model.specs.Closures.{reached}
use Rattle.closure_walk.specs.Walking.{In, Covers, Walking}
use Rattle.closure_walk.proofs.Members.{in_first, in_last, in_parts, From, in_flat, flat_in, in_union, union_first, union_last, IsAscending, asc_union, asc_same}

module _ (step : ℕ → Reading (List ℕ)) (v : Sight) (starts : List ℕ) where
  abbrev pub ends_of : ℕ → List ℕ
  ends_of x = (step x).answer v

  abbrev pub looks_of : ℕ → List Key
  looks_of x = (step x).keys v

  pub ends_more : (n : ℕ) → (reached step (suc n) starts).answer v ≡ union ((reached step n starts).answer v) (flat_map ends_of ((reached step n starts).answer v))
  unfolding reached
  ends_more n = refl

  pub keys_more : (n : ℕ) → (reached step (suc n) starts).keys v ≡ (reached step n starts).keys v ++ (flat_map looks_of ((reached step n starts).answer v) ++ [])
  unfolding reached
  keys_more n = refl

  pub ends_first : (reached step zero starts).answer v ≡ ascending starts
  unfolding reached
  ends_first = refl

  pub asc_reached : (n : ℕ) → IsAscending ((reached step n starts).answer v)
  asc_reached zero = subst (λ xs. IsAscending xs) (sym ends_first) (asc_union [] starts tt)
  asc_reached (suc n) = subst (λ xs. IsAscending xs) (sym (ends_more n)) (asc_union _ (flat_map ends_of ((reached step n starts).answer v)) (asc_reached n))

  -- a key read in n + 1 rounds was read in n, or by a step from a member
  in_more : (n : ℕ) (k : Key) → In k ((reached step (suc n) starts).keys v) → In k ((reached step n starts).keys v) ⊎ From looks_of ((reached step n starts).answer v) k
  in_more n k h =
      let h' : In k ((reached step n starts).keys v ++ (flat_map looks_of ((reached step n starts).answer v) ++ [])) = subst (λ ks. In k ks) (keys_more n) h in
      elim (in_parts k ((reached step n starts).keys v) (flat_map looks_of ((reached step n starts).answer v) ++ []) h') [
        | inl a ↦ inl a
        | inr b ↦ elim (in_parts k (flat_map looks_of ((reached step n starts).answer v)) [] b) [
          | inl c ↦ inr (in_flat looks_of ((reached step n starts).answer v) k c)
          | inr d ↦ absurd d
        ]
      ]

  more_in : (n : ℕ) (k : Key) → In k ((reached step n starts).keys v) ⊎ From looks_of ((reached step n starts).answer v) k → In k ((reached step (suc n) starts).keys v)
  more_in n k (inl h) = subst (λ ks. In k ks) (sym (keys_more n)) (in_first k ((reached step n starts).keys v) (flat_map looks_of ((reached step n starts).answer v) ++ []) h)
  more_in n k (inr r) = subst (λ ks. In k ks) (sym (keys_more n)) (in_last k ((reached step n starts).keys v) (flat_map looks_of ((reached step n starts).answer v) ++ []) (in_first k (flat_map looks_of ((reached step n starts).answer v)) [] (flat_in looks_of ((reached step n starts).answer v) r.at k r.is_in r.gives)))

  -- One round: the step is made from the fresh members alone.
  pub walking_more : (n : ℕ) (members fresh next : List ℕ) (before reads : List Key) → Walking step v starts n members fresh before reads
      → ((x : ℕ) → In x next → In x (union members (flat_map ends_of fresh)))
      → ((x : ℕ) → In x (union members (flat_map ends_of fresh)) → In x members ⊎ In x next)
      → Walking step v starts (suc n) (union members (flat_map ends_of fresh)) next before (reads ++ flat_map looks_of fresh)
  walking_more n members fresh next before reads w f g =
      let now : List ℕ = union members (flat_map ends_of fresh) in
      let after : List Key = reads ++ flat_map looks_of fresh in
      let covered : (x : ℕ) → In x members → Covers step v now after x = λ x h. elim (w.done x h) [
        | inl a ↦ record {
          ends = λ y k. union_last y members (flat_map ends_of fresh) (flat_in ends_of fresh x y a k);
          looks = λ k l. in_last k reads (flat_map looks_of fresh) (flat_in looks_of fresh x k a l);
        }
        | inr c ↦ record {
          ends = λ y k. union_first y members (flat_map ends_of fresh) (c.ends y k);
          looks = λ k l. in_first k reads (flat_map looks_of fresh) (c.looks k l);
        }
      ] in
      let asc : IsAscending members = subst (λ xs. IsAscending xs) (sym w.is_reached) (asc_reached n) in
      let whole : now ≡ union members (flat_map ends_of members) = asc_same _ _ (asc_union members (flat_map ends_of fresh) asc) (asc_union members (flat_map ends_of members) asc)
      (λ x h. elim (in_union x members (flat_map ends_of fresh) h) [
        | inl a ↦ union_first x members (flat_map ends_of members) a
        | inr b ↦ let r = in_flat ends_of fresh x b in union_last x members (flat_map ends_of members) (flat_in ends_of members r.at x (w.fresh_in r.at r.is_in) r.gives)
      ])
      (λ x h. elim (in_union x members (flat_map ends_of members) h) [
        | inl a ↦ union_first x members (flat_map ends_of fresh) a
        | inr b ↦ let r = in_flat ends_of members x b in (covered r.at r.is_in).ends x r.gives
      ]) in
      record {
        is_reached = whole ∙ ap (λ xs. union xs (flat_map ends_of xs)) w.is_reached ∙ sym (ends_more n);
        fresh_in = f;
        done = λ x h. elim (g x h) [ inl a ↦ inr (covered x a) | inr b ↦ inl b ];
        kept = λ k h. in_first k reads (flat_map looks_of fresh) (w.kept k h);
        only = λ k h. elim (in_parts k reads (flat_map looks_of fresh) h) [
          | inl a ↦ elim (w.only k a) [ inl b ↦ inl b | inr c ↦ inr (more_in n k (inl c)) ]
          | inr a ↦ let r = in_flat looks_of fresh k a in
              inr (more_in n k (inr (record { at = r.at; is_in = subst (λ xs. In r.at xs) w.is_reached (w.fresh_in r.at r.is_in); gives = r.gives })))
        ];
        all = λ k h. elim (in_more n k h) [
          | inl a ↦ in_first k reads (flat_map looks_of fresh) (w.all k a)
          | inr r ↦ (covered r.at (subst (λ xs. In r.at xs) (sym w.is_reached) r.is_in)).looks k r.gives
        ];
      }

  -- Where no member is fresh, further rounds bring nothing.
  stays_more : (n : ℕ) (members : List ℕ) (before reads : List Key) → Walking step v starts n members [] before reads → Walking step v starts (suc n) members [] before reads
  stays_more n members before reads w =
      let covered : (x : ℕ) → In x members → Covers step v members reads x = λ x h. elim (w.done x h) [ inl a ↦ absurd a | inr c ↦ c ] in
      let asc : IsAscending members = subst (λ xs. IsAscending xs) (sym w.is_reached) (asc_reached n) in
      let whole : members ≡ union members (flat_map ends_of members) = asc_same _ _ asc (asc_union members (flat_map ends_of members) asc)
      (λ x h. union_first x members (flat_map ends_of members) h)
      (λ x h. elim (in_union x members (flat_map ends_of members) h) [
        | inl a ↦ a
        | inr b ↦ let r = in_flat ends_of members x b in (covered r.at r.is_in).ends x r.gives
      ]) in
      record {
        is_reached = whole ∙ ap (λ xs. union xs (flat_map ends_of xs)) w.is_reached ∙ sym (ends_more n);
        fresh_in = w.fresh_in;
        done = w.done;
        kept = w.kept;
        only = λ k h. elim (w.only k h) [ inl b ↦ inl b | inr c ↦ inr (more_in n k (inl c)) ];
        all = λ k h. elim (in_more n k h) [
          | inl a ↦ w.all k a
          | inr r ↦ (covered r.at (subst (λ xs. In r.at xs) (sym w.is_reached) r.is_in)).looks k r.gives
        ];
      }

  pub walking_end : (m n : ℕ) (members : List ℕ) (before reads : List Key) → m ≤ n → Walking step v starts m members [] before reads → Walking step v starts n members [] before reads
  walking_end m zero members before reads l w = let e : m ≡ zero = omega arith in subst (λ k. Walking step v starts k members [] before reads) e w
  walking_end m (suc n) members before reads l w = elim (cases_lt n m) [
    | inl lt ↦ let e : m ≡ suc n = omega arith in subst (λ k. Walking step v starts k members [] before reads) e w
    | inr le ↦ stays_more n members before reads (walking_end m n members before reads le w)
  ]

  pub walking_start : (fresh : List ℕ) (before : List Key) → ((x : ℕ) → In x (ascending starts) → In x fresh) → ((x : ℕ) → In x fresh → In x (ascending starts)) → Walking step v starts zero (ascending starts) fresh before before
  unfolding reached
  walking_start fresh before f g = record {
    is_reached = refl;
    fresh_in = g;
    done = λ x h. inl (f x h);
    kept = λ k h. h;
    only = λ k h. inl h;
    all = λ k h. absurd h;
  }
