-- Walks and closures from a list look at what those from each of its members look at, and end where those end.
use Rattle.std.proofs.Common.{ℕ, zero, suc, List, [], ◌∷◌, ◌++◌, refl, sym, subst, inl, inr}
use Rattle.std.specs.List.{flat_map}
use Rattle.ifc_base.specs.declared.key.Key.{Key}
use Rattle.audit_model.specs.Reading.{Reading, stand}
use Rattle.audit_model.specs.Hops.{Hop, hop, walk}
use Rattle.audit_model.specs.Closures.{reached, closure}
use Rattle.audit_model.specs.Keys.{Sight}
use Rattle.schema_table.specs.Schema.{Schema}
use Rattle.closure_walk.specs.Walking.{In}
use Rattle.closure_walk.proofs.Members.{From, in_first, in_last, in_parts, in_flat, flat_in, in_union, union_first, union_last}

pub record Splits (v : Sight) (t : List ℕ → Reading (List ℕ)) : Type 0 where
  pub key_from : (ids : List ℕ) (k : Key) → In k ((t ids).keys v) → From (λ n. (t (n ∷ [])).keys v) ids k
  pub from_key : (ids : List ℕ) (n : ℕ) (k : Key) → In n ids → In k ((t (n ∷ [])).keys v) → In k ((t ids).keys v)
  pub end_from : (ids : List ℕ) (y : ℕ) → In y ((t ids).answer v) → From (λ n. (t (n ∷ [])).answer v) ids y
  pub from_end : (ids : List ℕ) (n y : ℕ) → In n ids → In y ((t (n ∷ [])).answer v) → In y ((t ids).answer v)

only : {X : Type 0} (x : X) (xs : List X) → In x (xs ++ []) → In x xs
only x xs i = elim (in_parts x xs [] i) [ inl a ↦ a | inr b ↦ absurd b ]

at_one : (y n : ℕ) (ids : List ℕ) → In n ids → In y (n ∷ []) → In y ids
at_one y n ids i (inl e) = subst (λ z. In z ids) (sym e) i
at_one y n ids i (inr b) = absurd b

module _ (s : Schema) (v : Sight) where
  abbrev hop_keys : Hop → List ℕ → List Key
  hop_keys h ids = flat_map (λ x. (hop s h x).keys v) ids

  abbrev hop_ends : Hop → List ℕ → List ℕ
  hop_ends h ids = flat_map (λ x. (hop s h x).answer v) ids

  pub walk_splits : (hs : List Hop) → Splits v (walk s hs)
  walk_splits [] = record {
    key_from = λ ids k i. let r = in_flat (λ x. (stand x).keys v) ids k (only k (flat_map (λ x. (stand x).keys v) ids) i) in record { at = r.at; is_in = r.is_in; gives = r.gives };
    from_key = λ ids n k i h. in_first k (flat_map (λ x. (stand x).keys v) ids) [] (flat_in (λ x. (stand x).keys v) ids n k i h);
    end_from = λ ids y i. record { at = y; is_in = i; gives = inl refl };
    from_end = λ ids n y i h. at_one y n ids i h;
  }
  walk_splits (h ∷ hs) =
      let rest : Splits v (walk s hs) = walk_splits hs in
      record {
        key_from = λ ids k i. elim (in_parts k (hop_keys h ids) ((walk s hs (hop_ends h ids)).keys v) i) [
          | inl a ↦ let r = in_flat (λ x. (hop s h x).keys v) ids k a in record { at = r.at; is_in = r.is_in; gives = in_first k (hop_keys h (r.at ∷ [])) _ (in_first k ((hop s h r.at).keys v) [] r.gives) }
          | inr b ↦
              let w = rest.key_from (hop_ends h ids) k b in
              let r = in_flat (λ x. (hop s h x).answer v) ids w.at w.is_in in
              record { at = r.at; is_in = r.is_in; gives = in_last k (hop_keys h (r.at ∷ [])) _ (rest.from_key (hop_ends h (r.at ∷ [])) w.at k (in_first w.at ((hop s h r.at).answer v) [] r.gives) w.gives) }
        ];
        from_key = λ ids n k i g. elim (in_parts k (hop_keys h (n ∷ [])) ((walk s hs (hop_ends h (n ∷ []))).keys v) g) [
          | inl a ↦ in_first k (hop_keys h ids) _ (flat_in (λ x. (hop s h x).keys v) ids n k i (only k ((hop s h n).keys v) a))
          | inr b ↦
              let w = rest.key_from (hop_ends h (n ∷ [])) k b in
              in_last k (hop_keys h ids) _ (rest.from_key (hop_ends h ids) w.at k (flat_in (λ x. (hop s h x).answer v) ids n w.at i (only w.at ((hop s h n).answer v) w.is_in)) w.gives)
        ];
        end_from = λ ids y i.
            let w = rest.end_from (hop_ends h ids) y i in
            let r = in_flat (λ x. (hop s h x).answer v) ids w.at w.is_in in
            record { at = r.at; is_in = r.is_in; gives = rest.from_end (hop_ends h (r.at ∷ [])) w.at y (in_first w.at ((hop s h r.at).answer v) [] r.gives) w.gives };
        from_end = λ ids n y i g.
            let w = rest.end_from (hop_ends h (n ∷ [])) y g in
            rest.from_end (hop_ends h ids) w.at y (flat_in (λ x. (hop s h x).answer v) ids n w.at i (only w.at ((hop s h n).answer v) w.is_in)) w.gives;
      }

module _ (v : Sight) (step : ℕ → Reading (List ℕ)) where
  abbrev step_keys : List ℕ → List Key
  step_keys xs = flat_map (λ x. (step x).keys v) xs

  abbrev step_ends : List ℕ → List ℕ
  step_ends xs = flat_map (λ x. (step x).answer v) xs

  reached_splits : (n : ℕ) → Splits v (reached step n)
  unfolding reached
  reached_splits zero = record {
    key_from = λ ids k i. absurd i;
    from_key = λ ids n k i h. absurd h;
    end_from = λ ids y i. elim (in_union y [] ids i) [ inl a ↦ absurd a | inr b ↦ record { at = y; is_in = b; gives = union_last y [] (y ∷ []) (inl refl) } ];
    from_end = λ ids n y i h. elim (in_union y [] (n ∷ []) h) [ inl a ↦ absurd a | inr b ↦ union_last y [] ids (at_one y n ids i b) ];
  }
  reached_splits (suc m) =
      let before : Splits v (reached step m) = reached_splits m in
      let xs : List ℕ → List ℕ = λ ids. (reached step m ids).answer v in
      record {
        key_from = λ ids k i. elim (in_parts k ((reached step m ids).keys v) (step_keys (xs ids) ++ []) i) [
          | inl a ↦ let w = before.key_from ids k a in record { at = w.at; is_in = w.is_in; gives = in_first k ((reached step m (w.at ∷ [])).keys v) _ w.gives }
          | inr b ↦
              let r = in_flat (λ x. (step x).keys v) (xs ids) k (only k (step_keys (xs ids)) b) in
              let w = before.end_from ids r.at r.is_in in
              record { at = w.at; is_in = w.is_in; gives = in_last k ((reached step m (w.at ∷ [])).keys v) _ (in_first k (step_keys (xs (w.at ∷ []))) [] (flat_in (λ x. (step x).keys v) (xs (w.at ∷ [])) r.at k w.gives r.gives)) }
        ];
        from_key = λ ids n k i h. elim (in_parts k ((reached step m (n ∷ [])).keys v) (step_keys (xs (n ∷ [])) ++ []) h) [
          | inl a ↦ in_first k ((reached step m ids).keys v) _ (before.from_key ids n k i a)
          | inr b ↦
              let r = in_flat (λ x. (step x).keys v) (xs (n ∷ [])) k (only k (step_keys (xs (n ∷ []))) b) in
              in_last k ((reached step m ids).keys v) _ (in_first k (step_keys (xs ids)) [] (flat_in (λ x. (step x).keys v) (xs ids) r.at k (before.from_end ids n r.at i r.is_in) r.gives))
        ];
        end_from = λ ids y i. elim (in_union y (xs ids) (step_ends (xs ids)) i) [
          | inl a ↦ let w = before.end_from ids y a in record { at = w.at; is_in = w.is_in; gives = union_first y (xs (w.at ∷ [])) (step_ends (xs (w.at ∷ []))) w.gives }
          | inr b ↦
              let r = in_flat (λ x. (step x).answer v) (xs ids) y b in
              let w = before.end_from ids r.at r.is_in in
              record { at = w.at; is_in = w.is_in; gives = union_last y (xs (w.at ∷ [])) (step_ends (xs (w.at ∷ []))) (flat_in (λ x. (step x).answer v) (xs (w.at ∷ [])) r.at y w.gives r.gives) }
        ];
        from_end = λ ids n y i h. elim (in_union y (xs (n ∷ [])) (step_ends (xs (n ∷ []))) h) [
          | inl a ↦ union_first y (xs ids) (step_ends (xs ids)) (before.from_end ids n y i a)
          | inr b ↦
              let r = in_flat (λ x. (step x).answer v) (xs (n ∷ [])) y b in
              union_last y (xs ids) (step_ends (xs ids)) (flat_in (λ x. (step x).answer v) (xs ids) r.at y (before.from_end ids n r.at i r.is_in) r.gives)
        ];
      }

  pub closure_splits : (m : ℕ) → Splits v (closure m step)
  closure_splits m =
      let all : Splits v (reached step m) = reached_splits m in
      let xs : List ℕ → List ℕ = λ ids. (reached step m ids).answer v in
      let stood : List ℕ → List Key = λ ids. flat_map (λ x. (stand x).keys v) ids in
      record {
        key_from = λ ids k i. elim (in_parts k ((reached step m ids).keys v) (stood (xs ids) ++ []) i) [
          | inl a ↦ let w = all.key_from ids k a in record { at = w.at; is_in = w.is_in; gives = in_first k ((reached step m (w.at ∷ [])).keys v) _ w.gives }
          | inr b ↦
              let r = in_flat (λ x. (stand x).keys v) (xs ids) k (only k (stood (xs ids)) b) in
              let w = all.end_from ids r.at r.is_in in
              record { at = w.at; is_in = w.is_in; gives = in_last k ((reached step m (w.at ∷ [])).keys v) _ (in_first k (stood (xs (w.at ∷ []))) [] (flat_in (λ x. (stand x).keys v) (xs (w.at ∷ [])) r.at k w.gives r.gives)) }
        ];
        from_key = λ ids n k i h. elim (in_parts k ((reached step m (n ∷ [])).keys v) (stood (xs (n ∷ [])) ++ []) h) [
          | inl a ↦ in_first k ((reached step m ids).keys v) _ (all.from_key ids n k i a)
          | inr b ↦
              let r = in_flat (λ x. (stand x).keys v) (xs (n ∷ [])) k (only k (stood (xs (n ∷ []))) b) in
              in_last k ((reached step m ids).keys v) _ (in_first k (stood (xs ids)) [] (flat_in (λ x. (stand x).keys v) (xs ids) r.at k (all.from_end ids n r.at i r.is_in) r.gives))
        ];
        end_from = all.end_from;
        from_end = all.from_end;
      }
