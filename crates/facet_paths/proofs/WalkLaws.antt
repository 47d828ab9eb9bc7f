-- What the walk of each path looks at is what its facets look at.
use Rattle.std.proofs.Common.{◌≡◌, ℕ, List, [], ◌∷◌, ◌++◌, ap, sym, subst, ◌∙◌, inl, inr, codes}
use Rattle.std.specs.List.{flat_map}
use Rattle.std.proofs.lemmas.List.{append-nil, append_assoc}
use Rattle.std.proofs.lemmas.Grind.{flat_map-append}
use Rattle.ifc_base.specs.declared.key.Key.{Key}
use Rattle.ifc_base.specs.declared.key.Key.TheVariants.{Inst}
use Rattle.ifc_base.specs.declared.key.Role.{Role}
use Rattle.ifc_base.specs.declared.key.Role.TheVariants as role
use Rattle.schema_table.specs.Schema.{Schema}
use Rattle.audit_model.specs.declared.facet.Relation.{Relation}
use Rattle.audit_model.specs.Keys.{Sight}
use Rattle.audit_model.specs.Ascending.{ascending}
use Rattle.audit_model.specs.Reading.{Reading, stand, visit, gather}
use Rattle.audit_model.specs.Hops.{hop, relating_things}
use Rattle.audit_model.specs.Hops.Hop.{Forward}
use Rattle.audit_model.specs.Closures.{closure, most_hops}
use Rattle.audit_model.specs.Paths.{types, kind_path, set_path, source_path, reference_path, classification_path, members_path, material_path, forward_by, material_attributes, ancestors}
use Rattle.audit_model.specs.Relations.{roles_of}
use Rattle.closure_walk.specs.Walking.{SameKeys}
use Rattle.closure_walk.proofs.Members.{in_first, in_last, in_parts, in_flat, flat_in}
use Rattle.closure_walk.proofs.Splits.{closure_splits}
use Rattle.facet_paths.specs.Reads.{Appends, Reads}
use Rattle.facet_paths.specs.declared.path.Path.TheVariants as path
use Rattle.facet_paths.specs.WalkEnds.{Walks, held_by, own_sets, sets_of_types, keys_of_types, related_by, related_keys}
use Rattle.facet_paths.proofs.Same.{same_is, same_more, same_then, closure_stands, gathers}
use Rattle.facet_paths.proofs.Elements.{types_stood, ancestors_stood}
use Rattle.facet_paths.proofs.Within.{Within, within_both, within_first, within_last, within_none, within_self, within_then, same_within, appended_same}

-- a closure from all of these, or one from each
module _ (v : Sight) (step : ℕ → Reading (List ℕ)) (m : ℕ) where
  abbrev from_all : List ℕ → List Key
  from_all ids = (closure m step ids).keys v

  -- what is looked at from one of them, standing on the members once more
  abbrev from_one : ℕ → List Key
  from_one n = (closure m step (n ∷ [])).keys v ++ flat_map (λ x. (stand x).keys v) ((closure m step (n ∷ [])).answer v)

  pub all_in_each : (ids : List ℕ) → Within (from_all ids) (flat_map from_one ids)
  all_in_each ids k i =
      let w = (closure_splits v step m).key_from ids k i in
      flat_in from_one ids w.at k w.is_in (in_first k (from_all (w.at ∷ [])) _ w.gives)

  one_stands : (n : ℕ) → Within (from_one n) (from_all (n ∷ []))
  one_stands n k i = elim (in_parts k (from_all (n ∷ [])) _ i) [ inl j ↦ j | inr j ↦ closure_stands m step (n ∷ []) v k j ]

  pub each_in_all : (ids : List ℕ) → Within (flat_map from_one ids) (from_all ids)
  each_in_all ids k i =
      let r = in_flat from_one ids k i in
      (closure_splits v step m).from_key ids r.at k r.is_in (one_stands r.at k r.gives)

  -- of two lists one after the other
  first_in_all : (xs ys : List ℕ) → Within (from_all xs) (from_all (xs ++ ys))
  first_in_all xs ys k i =
      let w = (closure_splits v step m).key_from xs k i in
      (closure_splits v step m).from_key (xs ++ ys) w.at k (in_first w.at xs ys w.is_in) w.gives

  last_in_all : (xs ys : List ℕ) → Within (from_all ys) (from_all (xs ++ ys))
  last_in_all xs ys k i =
      let w = (closure_splits v step m).key_from ys k i in
      (closure_splits v step m).from_key (xs ++ ys) w.at k (in_last w.at xs ys w.is_in) w.gives

  all_in_two : (xs ys : List ℕ) (ls : List Key) → Within (from_all xs) ls → Within (from_all ys) ls → Within (from_all (xs ++ ys)) ls
  all_in_two xs ys ls f g k i =
      let w = (closure_splits v step m).key_from (xs ++ ys) k i in
      elim (in_parts w.at xs ys w.is_in) [
        | inl j ↦ f k ((closure_splits v step m).from_key xs w.at k j w.gives)
        | inr j ↦ g k ((closure_splits v step m).from_key ys w.at k j w.gives)
      ]

  stands_within : (xs : List ℕ) → Within (from_all xs ++ flat_map (λ x. (stand x).keys v) ((closure m step xs).answer v)) (from_all xs)
  stands_within xs k i = elim (in_parts k (from_all xs) _ i) [ inl j ↦ j | inr j ↦ closure_stands m step xs v k j ]

module _ (s : Schema) (v : Sight) (e : ℕ) where
  pub own_walked : (ends : List ℕ) (a b : List Key) → ends ≡ e ∷ [] → b ≡ a ++ Inst e ∷ [] → Walks s v path.Own e ends a b
  own_walked ends a b h g = record { ends_are = h; reads_same = same_is b _ g }

  kind_keys : (n : ℕ) → SameKeys ((types s n).keys v) ((kind_path s n).keys v)
  kind_keys n =
      let t : List Key = (types s n).keys v in
      let stood : List Key = flat_map (λ x. (stand x).keys v) ((types s n).answer v) in
      same_within t (Inst n ∷ (t ++ (stood ++ [])))
      (λ k i. inr (in_first k t (stood ++ []) i))
      (λ k i. elim i [
        | inl here ↦ inl here
        | inr j ↦ elim (in_parts k t (stood ++ []) j) [
          | inl m ↦ m
          | inr m ↦ types_stood s v n k (elim (in_parts k stood [] m) [ inl o ↦ o | inr o ↦ absurd o ])
        ]
      ])

  pub kind_walked : (ends : List ℕ) (a b : List Key) → Appends (types s e) v [] ends a b → Walks s v path.Kind e ends a b
  kind_walked ends a b h = record { ends_are = h.ends_are; reads_same = appended_same b a ((types s e).keys v) ((kind_path s e).keys v) h.reads_are (kind_keys e) }

  -- Property.
  abbrev held_keys : List ℕ → List Key
  held_keys sets = (visit (set_path s) sets).keys v

  pub property_walked : (own inherited ends one two all : List ℕ) (a b c d f : List Key)
      → own ≡ own_sets s v e → b ≡ a ++ Inst e ∷ (relating_things s role.Properties e).keys v
      → one ≡ flat_map (held_by s v) own → c ≡ b ++ held_keys own
      → inherited ≡ sets_of_types s v e → d ≡ c ++ keys_of_types s v e
      → two ≡ one ++ flat_map (held_by s v) inherited → f ≡ d ++ held_keys inherited
      → all ≡ ascending two → Walks s v path.Property e all a f
  property_walked own inherited ends one two all a b c d f o b' g c' i d' h f' l =
      let r : List Key = (relating_things s role.Properties e).keys v in
      let t : List Key = (types s e).keys v in
      let hops : List Key = (gather (hop s (Forward (codes "HasPropertySets"))) ((types s e).answer v)).keys v in
      let mine : List Key = held_keys (own_sets s v e) in
      let theirs : List Key = held_keys (sets_of_types s v e) in
      let looked : f ≡ (((a ++ Inst e ∷ r) ++ mine) ++ (t ++ hops)) ++ theirs =
      f' ∙ ap (λ xs. d ++ held_keys xs) i
      ∙ ap (λ ks. ks ++ theirs) (d' ∙ ap (λ ks. ks ++ (t ++ hops)) (c' ∙ ap (λ xs. b ++ held_keys xs) o ∙ ap (λ ks. ks ++ mine) b')) in
      let code : List Key = (((Inst e ∷ r) ++ mine) ++ (t ++ hops)) ++ theirs in
      let path : List Key = Inst e ∷ (r ++ (mine ++ (t ++ (hops ++ (theirs ++ []))))) in
      let apart : f ≡ a ++ code =
      looked
      ∙ ap (λ ks. (ks ++ (t ++ hops)) ++ theirs) (append_assoc a (Inst e ∷ r) mine)
      ∙ ap (λ ks. ks ++ theirs) (append_assoc a ((Inst e ∷ r) ++ mine) (t ++ hops))
      ∙ append_assoc a (((Inst e ∷ r) ++ mine) ++ (t ++ hops)) theirs in
      let flat : code ≡ path =
      ap (λ ks. ks ++ theirs) (append_assoc (Inst e ∷ r) mine (t ++ hops))
      ∙ append_assoc (Inst e ∷ r) (mine ++ (t ++ hops)) theirs
      ∙ ap (λ ks. (Inst e ∷ r) ++ ks) (append_assoc mine (t ++ hops) theirs ∙ ap (λ ks. mine ++ ks) (append_assoc t hops theirs ∙ ap (λ ks. t ++ (hops ++ ks)) (sym (append-nil theirs)))) in
      record {
        ends_are = l ∙ ap ascending (h ∙ ap (λ xs. one ++ flat_map (held_by s v) xs) i ∙ ap (λ xs. xs ++ flat_map (held_by s v) (sets_of_types s v e)) (g ∙ ap (flat_map (held_by s v)) o) ∙ sym (flat_map-append (held_by s v) (own_sets s v e) (sets_of_types s v e)));
        reads_same = same_is f (a ++ path) (apart ∙ ap (λ ks. a ++ ks) flat);
      }

  -- the relating things of the element and of its types
  pub related_made : (r : Role) (ts ends all : List ℕ) (a b c d : List Key) → Appends (types s e) v [] ts a b → Appends (relating_things s r e) v [] ends b c
      → Appends (gather (relating_things s r) ts) v ends all c d → (all ≡ related_by s v r e) × (d ≡ a ++ related_keys s v r e)
  related_made r ts ends all a b c d t o i =
      let each : List ℕ → List ℕ = λ xs. flat_map (λ x. (relating_things s r x).answer v) xs in
      let looks : List ℕ → List Key = λ xs. (gather (relating_things s r) xs).keys v in
      let mine : List Key = (relating_things s r e).keys v in
      let kinds : List Key = (types s e).keys v in (
        i.ends_are ∙ ap (λ xs. ends ++ each xs) t.ends_are ∙ ap (λ xs. xs ++ each ((types s e).answer v)) o.ends_are,
        i.reads_are ∙ ap (λ xs. c ++ looks xs) t.ends_are ∙ ap (λ ks. ks ++ looks ((types s e).answer v)) (o.reads_are ∙ ap (λ ks. ks ++ mine) t.reads_are)
            ∙ ap (λ ks. ks ++ looks ((types s e).answer v)) (append_assoc a kinds mine) ∙ append_assoc a (kinds ++ mine) (looks ((types s e).answer v))
            ∙ ap (λ ks. a ++ ks) (append_assoc kinds mine (looks ((types s e).answer v))),
      )

  -- from the ids on, once they are found
  closed_from : (r : Role) (step : ℕ → Reading (List ℕ)) (path : List Key) (starts : List ℕ) (a b c : List Key) → starts ≡ related_by s v r e → b ≡ a ++ related_keys s v r e
      → SameKeys c (b ++ (closure most_hops step starts).keys v) → SameKeys (related_keys s v r e ++ (closure most_hops step (related_by s v r e)).keys v) path → SameKeys c (a ++ path)
  closed_from r step path starts a b c st h g q =
      let all : List Key = (closure most_hops step (related_by s v r e)).keys v in
      let one : SameKeys c ((a ++ related_keys s v r e) ++ all) =
      subst (λ ks. SameKeys c (ks ++ all)) h (subst (λ xs. SameKeys c (b ++ (closure most_hops step xs).keys v)) st g) in
      same_then c a (related_keys s v r e ++ all) path (subst (λ ks. SameKeys c ks) (append_assoc a (related_keys s v r e) all) one) q

  -- Classification.
  abbrev source_step : ℕ → Reading (List ℕ)
  source_step n = forward_by s (codes "ReferencedSource" ∷ []) n

  abbrev source_keys : ℕ → List Key
  source_keys n = (source_path s n).keys v

  classification_keys : SameKeys (related_keys s v role.Classification e ++ (closure most_hops source_step (related_by s v role.Classification e)).keys v) ((classification_path s e).keys v)
  classification_keys =
      let given : List ℕ = (relating_things s role.Classification e).answer v in
      let ts : List ℕ = (types s e).answer v in
      let theirs : List ℕ = flat_map (λ t. (relating_things s role.Classification t).answer v) ts in
      let t : List Key = (types s e).keys v in
      let r : List Key = (relating_things s role.Classification e).keys v in
      let g : List Key = (gather (relating_things s role.Classification) ts).keys v in
      let all : List Key = (closure most_hops source_step (given ++ theirs)).keys v in
      let of_given : List Key = flat_map source_keys given in
      let of_theirs : List Key = flat_map source_keys theirs in
      let own : List Key = r ++ of_given in
      let inherited : List Key = (gather (reference_path s) ts).keys v in
      let code : List Key = (t ++ (r ++ g)) ++ all in
      let path : List Key = t ++ (own ++ (inherited ++ [])) in
      let gathered : SameKeys (g ++ of_theirs) inherited = gathers (relating_things s role.Classification) (source_path s) v ts in
      let in_inherited : Within inherited path = within_last inherited t (own ++ (inherited ++ [])) (within_last inherited own (inherited ++ []) (within_first inherited inherited [] (within_self inherited))) in
      let in_own : Within own path = within_last own t (own ++ (inherited ++ [])) (within_first own own (inherited ++ []) (within_self own)) in
      let in_all : Within all code = within_last all (t ++ (r ++ g)) all (within_self all) in
      let in_code : Within (t ++ (r ++ g)) code = within_first (t ++ (r ++ g)) (t ++ (r ++ g)) all (within_self (t ++ (r ++ g))) in
      same_within code path
      (within_both (t ++ (r ++ g)) all path
      (within_both t (r ++ g) path (within_first t t (own ++ (inherited ++ [])) (within_self t))
      (within_both r g path (within_then r own path (within_first r r of_given (within_self r)) in_own) (λ k i. in_inherited k ((gathered k).0 (in_first k g of_theirs i)))))
      (all_in_two v source_step most_hops given theirs path
      (λ k i. in_own k (in_last k r of_given (all_in_each v source_step most_hops given k i)))
      (λ k i. in_inherited k ((gathered k).0 (in_last k g of_theirs (all_in_each v source_step most_hops theirs k i))))))
      (within_both t (own ++ (inherited ++ [])) code (λ k i. in_code k (in_first k t (r ++ g) i))
      (within_both own (inherited ++ []) code
      (within_both r of_given code (λ k i. in_code k (in_last k t (r ++ g) (in_first k r g i))) (λ k i. in_all k (first_in_all v source_step most_hops given theirs k (each_in_all v source_step most_hops given k i))))
      (within_both inherited [] code
      (λ k i. elim (in_parts k g of_theirs ((gathered k).1 i)) [
        | inl j ↦ in_code k (in_last k t (r ++ g) (in_last k r g j))
        | inr j ↦ in_all k (last_in_all v source_step most_hops given theirs k (each_in_all v source_step most_hops theirs k j))
      ])
      (within_none code))))

  -- the same, from each reference by itself
  pub sources_apart : SameKeys (related_keys s v role.Classification e ++ flat_map source_keys (related_by s v role.Classification e)) ((classification_path s e).keys v)
  sources_apart =
      let r : List Key = related_keys s v role.Classification e in
      let ids : List ℕ = related_by s v role.Classification e in
      let all : List Key = (closure most_hops source_step ids).keys v in
      let each : List Key = flat_map source_keys ids in
      let one : SameKeys (r ++ each) (r ++ all) = same_within (r ++ each) (r ++ all)
      (within_both r each (r ++ all) (within_first r r all (within_self r)) (λ k i. in_last k r all (each_in_all v source_step most_hops ids k i)))
      (within_both r all (r ++ each) (within_first r r each (within_self r)) (λ k i. in_last k r each (all_in_each v source_step most_hops ids k i))) in
      same_then (r ++ each) [] (r ++ all) ((classification_path s e).keys v) one classification_keys

  pub classification_walked : (starts ends : List ℕ) (a b c : List Key) → starts ≡ related_by s v role.Classification e → b ≡ a ++ related_keys s v role.Classification e
      → ends ≡ (closure most_hops source_step starts).answer v → SameKeys c (b ++ (closure most_hops source_step starts).keys v) → Walks s v path.Classification e ends a c
  classification_walked starts ends a b c st h g q = record {
    ends_are = g ∙ ap (λ xs. (closure most_hops source_step xs).answer v) st;
    reads_same = closed_from role.Classification source_step ((classification_path s e).keys v) starts a b c st h q classification_keys;
  }

  -- Material.
  abbrev material_step : ℕ → Reading (List ℕ)
  material_step n = forward_by s material_attributes n

  material_keys : SameKeys (related_keys s v role.Material e ++ (closure most_hops material_step (related_by s v role.Material e)).keys v) ((material_path s e).keys v)
  material_keys =
      let given : List ℕ = (relating_things s role.Material e).answer v in
      let ts : List ℕ = (types s e).answer v in
      let theirs : List ℕ = flat_map (λ t. (relating_things s role.Material t).answer v) ts in
      let t : List Key = (types s e).keys v in
      let r : List Key = (relating_things s role.Material e).keys v in
      let g : List Key = (gather (relating_things s role.Material) ts).keys v in
      let all : List Key = (closure most_hops material_step (given ++ theirs)).keys v in
      let of_given : List Key = (members_path s given).keys v in
      let of_theirs : List Key = (members_path s theirs).keys v in
      let code : List Key = (t ++ (r ++ g)) ++ all in
      let path : List Key = t ++ (r ++ (of_given ++ (g ++ (of_theirs ++ [])))) in
      let stood : List ℕ → List Key = λ xs. flat_map (λ x. (stand x).keys v) ((closure most_hops material_step xs).answer v) in
      let in_code : Within (t ++ (r ++ g)) code = within_first (t ++ (r ++ g)) (t ++ (r ++ g)) all (within_self (t ++ (r ++ g))) in
      let in_all : Within all code = within_last all (t ++ (r ++ g)) all (within_self all) in
      let after_r : Within (of_given ++ (g ++ (of_theirs ++ []))) path = λ k i. in_last k t _ (in_last k r _ i) in
      same_within code path
      (within_both (t ++ (r ++ g)) all path
      (within_both t (r ++ g) path (λ k i. in_first k t _ i) (within_both r g path (λ k i. in_last k t _ (in_first k r _ i)) (λ k i. after_r k (in_last k of_given _ (in_first k g _ i)))))
      (all_in_two v material_step most_hops given theirs path
      (λ k i. after_r k (in_first k of_given _ (in_first k ((closure most_hops material_step given).keys v) (stood given) i)))
      (λ k i. after_r k (in_last k of_given _ (in_last k g _ (in_first k of_theirs [] (in_first k ((closure most_hops material_step theirs).keys v) (stood theirs) i)))))))
      (within_both t (r ++ (of_given ++ (g ++ (of_theirs ++ [])))) code (λ k i. in_code k (in_first k t (r ++ g) i))
      (within_both r (of_given ++ (g ++ (of_theirs ++ []))) code (λ k i. in_code k (in_last k t (r ++ g) (in_first k r g i)))
      (within_both of_given (g ++ (of_theirs ++ [])) code (λ k i. in_all k (first_in_all v material_step most_hops given theirs k (stands_within v material_step most_hops given k i)))
      (within_both g (of_theirs ++ []) code (λ k i. in_code k (in_last k t (r ++ g) (in_last k r g i)))
      (within_both of_theirs [] code (λ k i. in_all k (last_in_all v material_step most_hops given theirs k (stands_within v material_step most_hops theirs k i))) (within_none code))))))

  pub material_walked : (starts ends : List ℕ) (a b c : List Key) → starts ≡ related_by s v role.Material e → b ≡ a ++ related_keys s v role.Material e
      → ends ≡ (closure most_hops material_step starts).answer v → SameKeys c (b ++ (closure most_hops material_step starts).keys v) → Walks s v path.Material e ends a c
  material_walked starts ends a b c st h g q = record {
    ends_are = g ∙ ap (λ xs. (closure most_hops material_step xs).answer v) st;
    reads_same = closed_from role.Material material_step ((material_path s e).keys v) starts a b c st h q material_keys;
  }

  -- PartOf.
  pub part_of_walked : (relation : Relation) (ends : List ℕ) (a b : List Key) → Reads (ancestors s (roles_of relation) e) v ends a b → Walks s v (path.PartOf relation) e ends a b
  part_of_walked relation ends a b h =
      let up : Reading (List ℕ) = ancestors s (roles_of relation) e in
      record {
        ends_are = h.answer_is;
        reads_same = same_more b a (up.keys v) (flat_map (λ x. (stand x).keys v) (up.answer v)) h.reads_same (ancestors_stood s v (roles_of relation) e);
      }

  kinds_keys : (ids : List ℕ) → SameKeys (flat_map (λ n. (types s n).keys v) ids) ((visit (kind_path s) ids).keys v)
  kinds_keys ids =
      let one : ℕ → List Key = λ n. (types s n).keys v in
      let two : ℕ → List Key = λ n. (kind_path s n).keys v in
      same_within (flat_map one ids) (flat_map two ids)
      (λ k i. let r = in_flat one ids k i in flat_in two ids r.at k r.is_in ((kind_keys r.at k).0 r.gives))
      (λ k i. let r = in_flat two ids k i in flat_in one ids r.at k r.is_in ((kind_keys r.at k).1 r.gives))

  pub part_of_kind_walked : (relation : Relation) (ends : List ℕ) (a b c : List Key) → Reads (ancestors s (roles_of relation) e) v ends a b
      → c ≡ b ++ flat_map (λ n. (types s n).keys v) ends → Walks s v (path.PartOfKind relation) e ends a c
  part_of_kind_walked relation ends a b c h g =
      let up : Reading (List ℕ) = ancestors s (roles_of relation) e in
      let kinds : List ℕ → List Key = λ xs. (visit (kind_path s) xs).keys v in
      let looked : SameKeys c (b ++ kinds (up.answer v)) = subst (λ xs. SameKeys c (b ++ kinds xs)) h.answer_is (appended_same c b (flat_map (λ n. (types s n).keys v) ends) (kinds ends) g (kinds_keys ends)) in
      record {
        ends_are = h.answer_is;
        reads_same = λ k. (
          λ i. elim (in_parts k b (kinds (up.answer v)) ((looked k).0 i)) [
            | inl j ↦ elim (in_parts k a (up.keys v) ((h.reads_same k).0 j)) [ inl m ↦ in_first k a _ m | inr m ↦ in_last k a _ (in_first k (up.keys v) (kinds (up.answer v)) m) ]
            | inr j ↦ in_last k a _ (in_last k (up.keys v) (kinds (up.answer v)) j)
          ],
          λ i. (looked k).1 (elim (in_parts k a (up.keys v ++ kinds (up.answer v)) i) [
            | inl j ↦ in_first k b _ ((h.reads_same k).1 (in_first k a (up.keys v) j))
            | inr j ↦ elim (in_parts k (up.keys v) (kinds (up.answer v)) j) [ inl m ↦ in_first k b _ ((h.reads_same k).1 (in_last k a (up.keys v) m)) | inr m ↦ in_last k b (kinds (up.answer v)) m ]
          ]),
        );
      }
