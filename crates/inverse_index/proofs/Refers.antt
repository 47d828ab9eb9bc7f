-- An instance stands in the lists of the ids to which it refers by a role, and in those of the ids to which it holds a reference.
use Rattle.std.proofs.Common.{◌≡◌, ℕ, ◌+◌, ◌==◌, Bool, true, false, not, ◌&&◌, ◌||◌, if◌then◌else◌, List, [], ◌∷◌, map, filter_map, flat_map, Option, Some, None, refl, ap, ◌∙◌, arith}
use Rattle.std.specs.List.{list_any, cons_option}
use Rattle.std.specs.Option.{option_map, option_map_or}
use Rattle.std.proofs.lemmas.Bool.{and_right, ne_eqb}
use Rattle.std.proofs.lemmas.List.Folds.{list_any-append}
use Rattle.ifc_base.specs.declared.value.Instance.{Instance}
use Rattle.ifc_base.specs.declared.key.Key.{Key}
use Rattle.ifc_base.specs.declared.key.Key.TheVariants.{Inst, Refs}
use Rattle.ifc_base.specs.declared.key.Role.{Role}
use Rattle.ifc_base.specs.declared.key.Role.TheVariants.{Properties, Kind, Classification, Material, Aggregates, Nests, Contained, Group, Voids, Fills}
use Rattle.ifc_base.specs.KeyOrder.{key_eq, role_rank}
use Rattle.schema_table.specs.declared.relation.Relation.{Relation}
use Rattle.schema_table.specs.Schema.{Schema, is_kind_of}
use Rattle.schema_table.specs.Relationships.{references_at, related_place, refers, relation, relations, relationship, roles}
use Rattle.audit_model.specs.Judging.{references}
use Rattle.inverse_index.specs.Index.{has_key, held_keys, holds, is_listed, keys_by, listed_keys, refs_keys, stands}
use Rattle.inverse_index.proofs.Passing.{passes}

or_false : (a : Bool) → (a || false) ≡ a
or_false true = refl
or_false false = refl

and_true : (a : Bool) → (a && true) ≡ a
and_true true = refl
and_true false = refl

and_false : (a : Bool) → (a && false) ≡ false
and_false true = refl
and_false false = refl

-- Keys of referrers.

any_flat : {X : Type 0} (f : X → List Key) (k : Key) (xs : List X) → has_key (flat_map f xs) k ≡ list_any (λ x. has_key (f x) k) xs
any_flat f k [] = refl
any_flat f k (x ∷ xs) = list_any-append (λ j. key_eq j k) (f x) (flat_map f xs) ∙ ap (λ b. has_key (f x) k || b) (any_flat f k xs)

same_role : Role → Role → Bool
same_role q r = role_rank q + 1 == role_rank r + 1

factored : (a b c : Bool) → (a && c || b && c) ≡ ((a || b) && c)
factored true b true = refl
factored true true false = refl
factored true false false = refl
factored false b c = refl

any_refs : (q r : Role) (i : ℕ) (ids : List ℕ) → has_key (map (λ j. Refs j q) ids) (Refs i r) ≡ (list_any (λ j. j == i) ids && same_role q r)
unfolding same_role
any_refs q r i [] = refl
any_refs q r i (j ∷ ids) = ap (λ b. j == i && role_rank q + 1 == role_rank r + 1 || b) (any_refs q r i ids) ∙ factored (j == i) (list_any (λ j. j == i) ids) (role_rank q + 1 == role_rank r + 1)

module _ (s : Schema) (x : Instance) (i : ℕ) (r : Role) where
  by_one : (q : Role) (o : Option ℕ) (rest : List Relation) → list_any (λ rel. has_key (keys_by s x rel) (Refs i r)) (cons_option (option_map (λ p. record { role = q; entity = (relationship q).entity; place = p }) o) rest)
      ≡ ((is_kind_of s x.entity (relationship q).entity && list_any (λ j. j == i) (option_map_or (references_at x.params) o [])) && same_role q r || list_any (λ rel. has_key (keys_by s x rel) (Refs i r)) rest)
  by_one q None rest =
      let F : Bool → Type 0 = λ b. list_any (λ rel. has_key (keys_by s x rel) (Refs i r)) rest ≡ ((b && false) && same_role q r || list_any (λ rel. has_key (keys_by s x rel) (Refs i r)) rest) in
      elim (is_kind_of s x.entity (relationship q).entity) as F [ true ↦ refl | false ↦ refl ]
  by_one q (Some p) rest =
      let F : Bool → Type 0 = λ b. (has_key (if b then map (λ j. Refs j q) (references_at x.params p) else []) (Refs i r) || list_any (λ rel. has_key (keys_by s x rel) (Refs i r)) rest)
      ≡ ((b && list_any (λ j. j == i) (references_at x.params p)) && same_role q r || list_any (λ rel. has_key (keys_by s x rel) (Refs i r)) rest) in
      elim (is_kind_of s x.entity (relationship q).entity) as F [ true ↦ ap (λ b. b || list_any (λ rel. has_key (keys_by s x rel) (Refs i r)) rest) (any_refs q r i (references_at x.params p)) | false ↦ refl ]

  by_all : (qs : List Role) → list_any (λ rel. has_key (keys_by s x rel) (Refs i r)) (filter_map (relation s) qs) ≡ list_any (λ q. refers s q i x && same_role q r) qs
  by_all [] = refl
  by_all (q ∷ qs) = by_one q (related_place s q) (filter_map (relation s) qs) ∙ ap (λ b. refers s q i x && same_role q r || b) (by_all qs)

only : (g : Role → Bool) (r : Role) → list_any (λ q. g q && same_role q r) roles ≡ g r
unfolding same_role
only g Properties = simp (and_false, and_true, or_false)
only g Kind = simp (and_false, and_true, or_false)
only g Classification = simp (and_false, and_true, or_false)
only g Material = simp (and_false, and_true, or_false)
only g Aggregates = simp (and_false, and_true, or_false)
only g Nests = simp (and_false, and_true, or_false)
only g Contained = simp (and_false, and_true, or_false)
only g Group = simp (and_false, and_true, or_false)
only g Voids = simp (and_false, and_true, or_false)
only g Fills = simp (and_false, and_true, or_false)

stands-refers : (s : Schema) (x : Instance) (i : ℕ) (r : Role) → stands s (Some x) (Refs i r) ≡ refers s r i x
unfolding stands relations
stands-refers s x i r = any_flat (keys_by s x) (Refs i r) (filter_map (relation s) roles) ∙ by_all s x i r roles ∙ only (λ q. refers s q i x) r

none_refs : (s : Schema) (i : ℕ) (r : Role) → stands s None (Refs i r) ≡ false
unfolding stands
none_refs s i r = refl

pub stands_refs : (s : Schema) (o : Option Instance) (i : ℕ) (r : Role) → stands s o (Refs i r) ≡ passes (refers s r i) o
stands_refs s None i r = none_refs s i r
stands_refs s (Some x) i r = stands-refers s x i r

-- No key of referrers is that of an id itself.

none_inst : (r : Role) (j : ℕ) (ids : List ℕ) → has_key (map (λ i. Refs i r) ids) (Inst j) ≡ false
none_inst r j [] = refl
none_inst r j (i ∷ ids) = ap (λ b. b || has_key (map (λ i. Refs i r) ids) (Inst j)) (and_right (i == j) (role_rank r + 1 == 0) (ne_eqb (role_rank r + 1) 0 (λ e. absurd (omega (arith, e))))) ∙ none_inst r j ids

none_by : (s : Schema) (x : Instance) (j : ℕ) (rels : List Relation) → has_key (flat_map (keys_by s x) rels) (Inst j) ≡ false
none_by s x j [] = refl
none_by s x j (rel ∷ rels) =
    list_any-append (λ k. key_eq k (Inst j)) (keys_by s x rel) (flat_map (keys_by s x) rels)
    ∙ ap (λ b. b || has_key (flat_map (keys_by s x) rels) (Inst j))
    (elim (is_kind_of s x.entity rel.entity) as (λ b. has_key (if b then map (λ i. Refs i rel.role) (references_at x.params rel.place) else []) (Inst j) ≡ false) [ true ↦ none_inst rel.role j (references_at x.params rel.place) | false ↦ refl ])
    ∙ none_by s x j rels

pub stands_inst : (s : Schema) (o : Option Instance) (j : ℕ) → stands s o (Inst j) ≡ false
unfolding stands
stands_inst s None j = refl
stands_inst s (Some x) j = none_by s x j (relations s)

-- Keys of holders.

any_inst : (i : ℕ) (ids : List ℕ) → has_key (map (λ j. Inst j) ids) (Inst i) ≡ list_any (λ j. j == i) ids
any_inst i [] = refl
any_inst i (j ∷ ids) = ap (λ b. b || has_key (map (λ j. Inst j) ids) (Inst i)) (and_true (j == i)) ∙ ap (λ b. j == i || b) (any_inst i ids)

held_inst : (o : Option Instance) (i : ℕ) → has_key (held_keys o) (Inst i) ≡ passes (holds i) o
held_inst None i = refl
held_inst (Some x) i = any_inst i (references x)

any_none : (i : ℕ) (r : Role) (ids : List ℕ) → has_key (map (λ j. Inst j) ids) (Refs i r) ≡ false
any_none i r [] = refl
any_none i r (j ∷ ids) = ap (λ b. b || has_key (map (λ j. Inst j) ids) (Refs i r)) (and_right (j == i) (0 == role_rank r + 1) (ne_eqb 0 (role_rank r + 1) (λ e. absurd (omega (arith, e))))) ∙ any_none i r ids

held_refs : (o : Option Instance) (i : ℕ) (r : Role) → has_key (held_keys o) (Refs i r) ≡ false
held_refs None i r = refl
held_refs (Some x) i r = any_none i r (references x)

-- Both.

listed_as : (s : Schema) (o : Option Instance) (k : Key) → is_listed s o k ≡ (has_key (held_keys o) k || stands s o k)
unfolding is_listed stands
listed_as s o k = list_any-append (λ j. key_eq j k) (held_keys o) (refs_keys s o)

pub listed_inst : (s : Schema) (o : Option Instance) (i : ℕ) → is_listed s o (Inst i) ≡ passes (holds i) o
listed_inst s o i = listed_as s o (Inst i) ∙ ap (λ b. has_key (held_keys o) (Inst i) || b) (stands_inst s o i) ∙ or_false (has_key (held_keys o) (Inst i)) ∙ held_inst o i

pub listed_refs : (s : Schema) (o : Option Instance) (i : ℕ) (r : Role) → is_listed s o (Refs i r) ≡ passes (refers s r i) o
listed_refs s o i r = listed_as s o (Refs i r) ∙ ap (λ b. b || stands s o (Refs i r)) (held_refs o i r) ∙ stands_refs s o i r

-- What stood and doesn't, by the keys of the two.
pub gone_is : (s : Schema) (o w : Option Instance) (olds news : List Key) (k : Key) (b : Bool) → b ≡ (has_key olds k && not (has_key news k)) → olds ≡ refs_keys s o → news ≡ refs_keys s w → b ≡ (stands s o k && not (stands s w k))
unfolding stands
gone_is s o w olds news k b e eo ew = e ∙ ap (λ ks. has_key ks k && not (has_key news k)) eo ∙ ap (λ ks. has_key (refs_keys s o) k && not (has_key ks k)) ew

pub gone_listed : (s : Schema) (o w : Option Instance) (olds news : List Key) (k : Key) (b : Bool) → b ≡ (has_key olds k && not (has_key news k)) → olds ≡ listed_keys s o → news ≡ listed_keys s w → b ≡ (is_listed s o k && not (is_listed s w k))
unfolding is_listed
gone_listed s o w olds news k b e eo ew = e ∙ ap (λ ks. has_key ks k && not (has_key news k)) eo ∙ ap (λ ks. has_key (listed_keys s o) k && not (has_key ks k)) ew

pub listed_is : (s : Schema) (o : Option Instance) (ks : List Key) (k : Key) → ks ≡ listed_keys s o → has_key ks k ≡ is_listed s o k
unfolding is_listed
listed_is s o ks k e = ap (λ ls. has_key ls k) e
