-- The paths with closures look at the keys of their rows.
use Rattle.std.proofs.Common.{ℕ, List, [], ◌∷◌, ◌++◌, sym, subst, inl, inr, codes}
use Rattle.std.specs.List.{flat_map}
use Rattle.std.proofs.lemmas.List.{append-nil}
use Rattle.ifc_base.specs.declared.key.Key.{Key}
use Rattle.ifc_base.specs.declared.key.Key.TheVariants.{Inst}
use Rattle.ifc_base.specs.declared.key.Role.{Role}
use Rattle.ifc_base.specs.declared.key.Role.TheVariants as role
use Rattle.audit_model.specs.Reading.{Reading, stand}
use Rattle.audit_model.specs.Hops.{walk}
use Rattle.audit_model.specs.Closures.{reached, closure, most_hops, most_after}
use Rattle.audit_model.specs.Paths.{types, forward_by, above, material_attributes, members_path, source_path}
use Rattle.audit_model.specs.Keys.{Sight}
use Rattle.schema_table.specs.Schema.{Schema}
use Rattle.closure_walk.specs.Walking.{In}
use Rattle.closure_walk.specs.Table.{by_role, ClassificationPathIsRows, MaterialPathIsRows, PartOfPathIsRows}
use Rattle.closure_walk.proofs.Members.{in_first, in_last, in_parts, in_flat, flat_in}
use Rattle.closure_walk.proofs.Splits.{walk_splits, closure_splits}

pub only : (x : Key) (xs : List Key) → In x (xs ++ []) → In x xs
only x xs i = elim (in_parts x xs [] i) [ inl a ↦ a | inr b ↦ absurd b ]

-- a closure stands on what it reaches
pub stood : (v : Sight) (m : ℕ) (step : ℕ → Reading (List ℕ)) (starts : List ℕ) (k : Key) → In k (flat_map (λ x. (stand x).keys v) ((closure m step starts).answer v)) → In k ((closure m step starts).keys v)
stood v m step starts k i = in_last k ((reached step m starts).keys v) _ (in_first k (flat_map (λ x. (stand x).keys v) ((reached step m starts).answer v)) [] i)

-- the keys of the members of a closure are those of the closure
members_in : (s : Schema) (v : Sight) (starts : List ℕ) (k : Key) → In k ((members_path s starts).keys v) → In k ((closure most_hops (forward_by s material_attributes) starts).keys v)
members_in s v starts k i = elim (in_parts k ((closure most_hops (forward_by s material_attributes) starts).keys v) _ i) [ inl a ↦ a | inr b ↦ stood v most_hops (forward_by s material_attributes) starts k b ]

module _ (s : Schema) (v : Sight) (e : ℕ) where
  abbrev kind_keys : List Key
  kind_keys = (walk s (by_role role.Kind) (e ∷ [])).keys v

  abbrev kinds : List ℕ
  kinds = (types s e).answer v

  -- the rows of a relationship: along Kind; from the element; and from its types
  abbrev first_row : List Key
  first_row = Inst e ∷ (kind_keys ++ [])

  abbrev second_row : Role → List (List ℕ) → List Key
  second_row r attrs = Inst e ∷ ((walk s (by_role r) (e ∷ [])).keys v ++ ((closure most_hops (forward_by s attrs) ((walk s (by_role r) (e ∷ [])).answer v)).keys v ++ []))

  abbrev third_row : Role → List (List ℕ) → List Key
  third_row r attrs = Inst e ∷ (kind_keys ++ ((walk s (by_role r) kinds).keys v ++ ((closure most_hops (forward_by s attrs) ((walk s (by_role r) kinds).answer v)).keys v ++ [])))

  abbrev rows : Role → List (List ℕ) → List Key
  rows r attrs = first_row ++ (second_row r attrs ++ (third_row r attrs ++ []))

  in_one : (r : Role) (attrs : List (List ℕ)) (k : Key) → In k kind_keys → In k (rows r attrs)
  in_one r attrs k i = in_first k first_row _ (inr (in_first k kind_keys [] i))

  in_two_walk : (r : Role) (attrs : List (List ℕ)) (k : Key) → In k ((walk s (by_role r) (e ∷ [])).keys v) → In k (rows r attrs)
  in_two_walk r attrs k i = in_last k first_row _ (in_first k (second_row r attrs) _ (inr (in_first k ((walk s (by_role r) (e ∷ [])).keys v) _ i)))

  in_two_more : (r : Role) (attrs : List (List ℕ)) (k : Key) → In k ((closure most_hops (forward_by s attrs) ((walk s (by_role r) (e ∷ [])).answer v)).keys v) → In k (rows r attrs)
  in_two_more r attrs k i = in_last k first_row _ (in_first k (second_row r attrs) _ (inr (in_last k ((walk s (by_role r) (e ∷ [])).keys v) _ (in_first k _ [] i))))

  in_three_walk : (r : Role) (attrs : List (List ℕ)) (k : Key) → In k ((walk s (by_role r) kinds).keys v) → In k (rows r attrs)
  in_three_walk r attrs k i = in_last k first_row _ (in_last k (second_row r attrs) _ (in_first k (third_row r attrs) [] (inr (in_last k kind_keys _ (in_first k ((walk s (by_role r) kinds).keys v) _ i)))))

  in_three_more : (r : Role) (attrs : List (List ℕ)) (k : Key) → In k ((closure most_hops (forward_by s attrs) ((walk s (by_role r) kinds).answer v)).keys v) → In k (rows r attrs)
  in_three_more r attrs k i = in_last k first_row _ (in_last k (second_row r attrs) _ (in_first k (third_row r attrs) [] (inr (in_last k kind_keys _ (in_last k ((walk s (by_role r) kinds).keys v) _ (in_first k _ [] i))))))

  -- what is said of each part of the rows is said of them
  each_row : (r : Role) (attrs : List (List ℕ)) (k : Key) (P : Type 0) → (In k kind_keys → P) → (In k ((walk s (by_role r) (e ∷ [])).keys v) → P) → (In k ((closure most_hops (forward_by s attrs) ((walk s (by_role r) (e ∷ [])).answer v)).keys v) → P)
      → (In k ((walk s (by_role r) kinds).keys v) → P) → (In k ((closure most_hops (forward_by s attrs) ((walk s (by_role r) kinds).answer v)).keys v) → P) → In k (rows r attrs) → P
  each_row r attrs k P one two more three last i =
      elim (in_parts k first_row _ i) [
        | inl (inl here) ↦ one (inl here)
        | inl (inr a) ↦ one (only k kind_keys a)
        | inr b ↦ elim (in_parts k (second_row r attrs) _ b) [
          | inl (inl here) ↦ one (inl here)
          | inl (inr a) ↦ elim (in_parts k ((walk s (by_role r) (e ∷ [])).keys v) _ a) [ inl c ↦ two c | inr c ↦ more (only k _ c) ]
          | inr d ↦ elim (only k (third_row r attrs) d) [
            | inl here ↦ one (inl here)
            | inr a ↦ elim (in_parts k kind_keys _ a) [
              | inl c ↦ one c
              | inr c ↦ elim (in_parts k ((walk s (by_role r) kinds).keys v) _ c) [ inl f ↦ three f | inr f ↦ last (only k _ f) ]
            ]
          ]
        ]
      ]

  abbrev material_step : ℕ → Reading (List ℕ)
  material_step n = forward_by s material_attributes n

  abbrev source_step : ℕ → Reading (List ℕ)
  source_step n = forward_by s (codes "ReferencedSource" ∷ []) n

  -- from a type along a role, and on
  abbrev goes : Role → ℕ → List ℕ
  goes r t = (walk s (by_role r) (t ∷ [])).answer v

  all_goes : (r : Role) (step : ℕ → Reading (List ℕ)) (k : Key) → In k ((closure most_hops step (flat_map (λ t. goes r t) kinds)).keys v) → In k ((closure most_hops step ((walk s (by_role r) kinds).answer v)).keys v)
  all_goes r step k i =
      let w = (closure_splits v step most_hops).key_from (flat_map (λ t. goes r t) kinds) k i in
      let t = in_flat (λ t. goes r t) kinds w.at w.is_in in
      (closure_splits v step most_hops).from_key ((walk s (by_role r) kinds).answer v) w.at k ((walk_splits s v (by_role r)).from_end kinds t.at w.at t.is_in t.gives) w.gives

  goes_all : (r : Role) (step : ℕ → Reading (List ℕ)) (k : Key) → In k ((closure most_hops step ((walk s (by_role r) kinds).answer v)).keys v) → In k ((closure most_hops step (flat_map (λ t. goes r t) kinds)).keys v)
  goes_all r step k i =
      let w = (closure_splits v step most_hops).key_from ((walk s (by_role r) kinds).answer v) k i in
      let t = (walk_splits s v (by_role r)).end_from kinds w.at w.is_in in
      (closure_splits v step most_hops).from_key (flat_map (λ t. goes r t) kinds) w.at k (flat_in (λ t. goes r t) kinds t.at w.at t.is_in t.gives) w.gives

  -- Material.

  abbrev given : List ℕ
  given = goes role.Material e

  abbrev given_keys : List Key
  given_keys = (walk s (by_role role.Material) (e ∷ [])).keys v

  abbrev own_keys : List Key
  own_keys = (members_path s given).keys v

  abbrev type_keys : List Key
  type_keys = flat_map (λ t. (walk s (by_role role.Material) (t ∷ [])).keys v) kinds

  abbrev type_ids : List ℕ
  type_ids = flat_map (λ t. goes role.Material t) kinds

  abbrev inherited_keys : List Key
  inherited_keys = (members_path s type_ids).keys v

  abbrev MaterialKeys : List Key
  MaterialKeys = kind_keys ++ (given_keys ++ (own_keys ++ (type_keys ++ (inherited_keys ++ []))))

  material_there : (k : Key) → In k MaterialKeys → In k (rows role.Material material_attributes)
  material_there k i = elim (in_parts k kind_keys _ i) [
    | inl a ↦ in_one role.Material material_attributes k a
    | inr a ↦ elim (in_parts k given_keys _ a) [
      | inl b ↦ in_two_walk role.Material material_attributes k b
      | inr b ↦ elim (in_parts k own_keys _ b) [
        | inl c ↦ in_two_more role.Material material_attributes k (members_in s v given k c)
        | inr c ↦ elim (in_parts k type_keys _ c) [
          | inl d ↦ let t = in_flat (λ t. (walk s (by_role role.Material) (t ∷ [])).keys v) kinds k d in in_three_walk role.Material material_attributes k ((walk_splits s v (by_role role.Material)).from_key kinds t.at k t.is_in t.gives)
          | inr d ↦ in_three_more role.Material material_attributes k (all_goes role.Material material_step k (members_in s v type_ids k (only k inherited_keys d)))
        ]
      ]
    ]
  ]

  material_here : (k : Key) → In k (rows role.Material material_attributes) → In k MaterialKeys
  material_here k i = each_row role.Material material_attributes k (In k MaterialKeys)
      (λ a. in_first k kind_keys _ a)
      (λ a. in_last k kind_keys _ (in_first k given_keys _ a))
      (λ a. in_last k kind_keys _ (in_last k given_keys _ (in_first k own_keys _ (in_first k ((closure most_hops (forward_by s material_attributes) given).keys v) _ a))))
      (λ a.
      let t = (walk_splits s v (by_role role.Material)).key_from kinds k a in
      in_last k kind_keys _ (in_last k given_keys _ (in_last k own_keys _ (in_first k type_keys _ (flat_in (λ t. (walk s (by_role role.Material) (t ∷ [])).keys v) kinds t.at k t.is_in t.gives)))))
      (λ a. in_last k kind_keys _ (in_last k given_keys _ (in_last k own_keys _ (in_last k type_keys _ (in_first k inherited_keys [] (in_first k ((closure most_hops (forward_by s material_attributes) type_ids).keys v) _ (goes_all role.Material material_step k a)))))))
      i

  -- Classification.

  abbrev sources : List (List ℕ)
  sources = codes "ReferencedSource" ∷ []

  abbrev cites : ℕ → List ℕ
  cites n = goes role.Classification n

  abbrev cite_keys : ℕ → List Key
  cite_keys n = (walk s (by_role role.Classification) (n ∷ [])).keys v

  abbrev source_keys : ℕ → List Key
  source_keys n = flat_map (λ m. (source_path s m).keys v) (cites n)

  abbrev reference_keys : ℕ → List Key
  reference_keys n = cite_keys n ++ source_keys n

  abbrev on_keys : ℕ → List Key
  on_keys n = (closure most_hops (forward_by s sources) (cites n)).keys v

  sources_in : (n : ℕ) (k : Key) → In k (source_keys n) → In k (on_keys n)
  sources_in n k i =
      let m = in_flat (λ m. (source_path s m).keys v) (cites n) k i in
      let here : In k ((closure most_hops (forward_by s sources) (m.at ∷ [])).keys v) = elim (in_parts k ((closure most_hops (forward_by s sources) (m.at ∷ [])).keys v) _ m.gives) [ inl a ↦ a | inr b ↦ stood v most_hops (forward_by s sources) (m.at ∷ []) k b ] in
      (closure_splits v (forward_by s sources) most_hops).from_key (cites n) m.at k m.is_in here

  in_sources : (n : ℕ) (k : Key) → In k (on_keys n) → In k (source_keys n)
  in_sources n k i =
      let m = (closure_splits v (forward_by s sources) most_hops).key_from (cites n) k i in
      flat_in (λ m. (source_path s m).keys v) (cites n) m.at k m.is_in (in_first k ((closure most_hops (forward_by s sources) (m.at ∷ [])).keys v) _ m.gives)

  abbrev all_keys : List Key
  all_keys = flat_map (λ t. reference_keys t) kinds

  abbrev ClassificationKeys : List Key
  ClassificationKeys = kind_keys ++ (reference_keys e ++ (all_keys ++ []))

  from_type : (t : ℕ) (k : Key) → In t kinds → In k (reference_keys t) → In k (rows role.Classification sources)
  from_type t k i h = elim (in_parts k (cite_keys t) (source_keys t) h) [
    | inl a ↦ in_three_walk role.Classification sources k ((walk_splits s v (by_role role.Classification)).from_key kinds t k i a)
    | inr a ↦
        let w = (closure_splits v (forward_by s sources) most_hops).key_from (cites t) k (sources_in t k a) in
        in_three_more role.Classification sources k ((closure_splits v (forward_by s sources) most_hops).from_key ((walk s (by_role role.Classification) kinds).answer v) w.at k ((walk_splits s v (by_role role.Classification)).from_end kinds t w.at i w.is_in) w.gives)
  ]

  classification_there : (k : Key) → In k ClassificationKeys → In k (rows role.Classification sources)
  classification_there k i = elim (in_parts k kind_keys _ i) [
    | inl a ↦ in_one role.Classification sources k a
    | inr a ↦ elim (in_parts k (reference_keys e) _ a) [
      | inl b ↦ elim (in_parts k (cite_keys e) (source_keys e) b) [
        | inl c ↦ in_two_walk role.Classification sources k c
        | inr c ↦ in_two_more role.Classification sources k (sources_in e k c)
      ]
      | inr b ↦ let t = in_flat (λ t. reference_keys t) kinds k (only k all_keys b) in from_type t.at k t.is_in t.gives
    ]
  ]

  at_type : (t : ℕ) (k : Key) → In t kinds → In k (reference_keys t) → In k ClassificationKeys
  at_type t k i h = in_last k kind_keys _ (in_last k (reference_keys e) _ (in_first k all_keys [] (flat_in (λ t. reference_keys t) kinds t k i h)))

  classification_here : (k : Key) → In k (rows role.Classification sources) → In k ClassificationKeys
  classification_here k i = each_row role.Classification sources k (In k ClassificationKeys)
      (λ a. in_first k kind_keys _ a)
      (λ a. in_last k kind_keys _ (in_first k (reference_keys e) _ (in_first k (cite_keys e) _ a)))
      (λ a. in_last k kind_keys _ (in_first k (reference_keys e) _ (in_last k (cite_keys e) _ (in_sources e k a))))
      (λ a. let t = (walk_splits s v (by_role role.Classification)).key_from kinds k a in at_type t.at k t.is_in (in_first k (cite_keys t.at) _ t.gives))
      (λ a.
      let w = (closure_splits v (forward_by s sources) most_hops).key_from ((walk s (by_role role.Classification) kinds).answer v) k a in
      let t = (walk_splits s v (by_role role.Classification)).end_from kinds w.at w.is_in in
      at_type t.at k t.is_in (in_last k (cite_keys t.at) _ (in_sources t.at k ((closure_splits v (forward_by s sources) most_hops).from_key (cites t.at) w.at k t.gives w.gives))))
      i

  -- PartOf.

  module _ (roles : List Role) where
    abbrev up : List ℕ
    up = (above s roles e).answer v

    abbrev up_keys : List Key
    up_keys = (above s roles e).keys v

    abbrev further : List ℕ → List Key
    further ids = (closure most_after (above s roles) ids).keys v

    abbrev UpRow : List Key
    UpRow = Inst e ∷ ((up_keys ++ []) ++ (further (up ++ []) ++ []))

    abbrev UpPath : List Key
    UpPath = (up_keys ++ further up) ++ flat_map (λ x. (stand x).keys v) ((closure most_after (above s roles) up).answer v)

    up_further : (k : Key) → In k (further up) → In k (UpRow ++ [])
    up_further k i = in_first k UpRow [] (inr (in_last k (up_keys ++ []) _ (in_first k (further (up ++ [])) [] (subst (λ ids. In k (further ids)) (sym (append-nil up)) i))))

    part_there : (k : Key) → In k UpPath → In k (UpRow ++ [])
    part_there k i = elim (in_parts k (up_keys ++ further up) _ i) [
      | inl a ↦ elim (in_parts k up_keys (further up) a) [
        | inl b ↦ in_first k UpRow [] (inr (in_first k (up_keys ++ []) _ (in_first k up_keys [] b)))
        | inr b ↦ up_further k b
      ]
      | inr a ↦ up_further k (stood v most_after (above s roles) up k a)
    ]

    part_here : (k : Key) → In k (UpRow ++ []) → In k UpPath
    part_here k i = in_first k (up_keys ++ further up) _ (elim (only k UpRow i) [
      | inl here ↦ in_first k up_keys (further up) (inl here)
      | inr a ↦ elim (in_parts k (up_keys ++ []) _ a) [
        | inl b ↦ in_first k up_keys (further up) (only k up_keys b)
        | inr b ↦ in_last k up_keys (further up) (subst (λ ids. In k (further ids)) (append-nil up) (only k (further (up ++ [])) b))
      ]
    ])

pub material_is_rows : MaterialPathIsRows
material_is_rows s v e k = (λ h. material_there s v e k h, λ h. material_here s v e k h)

pub classification_is_rows : ClassificationPathIsRows
classification_is_rows s v e k = (λ h. classification_there s v e k h, λ h. classification_here s v e k h)

pub part_of_is_rows : PartOfPathIsRows
part_of_is_rows s v roles e k = (λ h. part_there s v e roles k h, λ h. part_here s v e roles k h)
