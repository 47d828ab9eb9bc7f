-- The path of properties looks at the keys of its row.
use Rattle.std.proofs.Common.{◌≡◌, ℕ, List, [], ◌∷◌, ◌++◌, refl, subst, inl, inr, ◌⊎◌, codes}
use Rattle.std.specs.List.{flat_map}
use Rattle.ifc_base.specs.declared.key.Key.{Key}
use Rattle.ifc_base.specs.declared.key.Key.TheVariants.{Inst}
use Rattle.ifc_base.specs.declared.key.Role.TheVariants.{Kind, Properties}
use Rattle.audit_model.specs.Hops.{references_in}
use Rattle.audit_model.specs.Keys.{Sight}
use Rattle.schema_table.specs.Relationships.{relationship}
use Rattle.schema_table.specs.Schema.{Schema}
use Rattle.audit_model.specs.Reading.{stand}
use Rattle.audit_model.specs.Hops.{Hop, hop, walk}
use Rattle.audit_model.specs.Hops.Hop.{Back, Forward}
use Rattle.audit_model.specs.Paths.{set_path, property_path}
use Rattle.closure_walk.specs.Walking.{In}
use Rattle.closure_walk.specs.Ties.{row_keys, property_row, PropertyPathIsRow}
use Rattle.closure_walk.proofs.Members.{in_first, in_last, in_parts, in_flat, flat_in}

module _ (s : Schema) (v : Sight) where
  -- k is looked at on a walk from n
  On : List Hop → ℕ → Key → Type 0
  On [] n k = k ≡ Inst n
  On (h ∷ hs) n k = In k ((hop s h n).keys v) ⊎ ((m : ℕ) × In m ((hop s h n).answer v) × On hs m k)

  record OnFrom (hs : List Hop) (ids : List ℕ) (k : Key) : Type 0 where
    start : ℕ
    is_in : In start ids
    on : On hs start k

  walk_on : (hs : List Hop) (ids : List ℕ) (k : Key) → In k ((walk s hs ids).keys v) → OnFrom hs ids k
  unfolding On
  walk_on [] ids k h = elim (in_parts k (flat_map (λ x. (stand x).keys v) ids) [] h) [
    | inl a ↦ let r = in_flat (λ x. (stand x).keys v) ids k a in record { start = r.at; is_in = r.is_in; on = elim r.gives [ inl e ↦ e | inr b ↦ absurd b ] }
    | inr a ↦ absurd a
  ]
  walk_on (h ∷ hs) ids k i = elim (in_parts k (flat_map (λ x. (hop s h x).keys v) ids) ((walk s hs (flat_map (λ x. (hop s h x).answer v) ids)).keys v) i) [
    | inl a ↦ let r = in_flat (λ x. (hop s h x).keys v) ids k a in record { start = r.at; is_in = r.is_in; on = inl r.gives }
    | inr a ↦
        let w = walk_on hs (flat_map (λ x. (hop s h x).answer v) ids) k a in
        let r = in_flat (λ x. (hop s h x).answer v) ids w.start w.is_in in
        record { start = r.at; is_in = r.is_in; on = inr (w.start, r.gives, w.on) }
  ]

  on_walk : (hs : List Hop) (ids : List ℕ) (n : ℕ) (k : Key) → In n ids → On hs n k → In k ((walk s hs ids).keys v)
  unfolding On
  on_walk [] ids n k i o = in_first k (flat_map (λ x. (stand x).keys v) ids) [] (flat_in (λ x. (stand x).keys v) ids n k i (inl o))
  on_walk (h ∷ hs) ids n k i (inl o) = in_first k (flat_map (λ x. (hop s h x).keys v) ids) ((walk s hs (flat_map (λ x. (hop s h x).answer v) ids)).keys v) (flat_in (λ x. (hop s h x).keys v) ids n k i o)
  on_walk (h ∷ hs) ids n k i (inr o) = in_last k (flat_map (λ x. (hop s h x).keys v) ids) ((walk s hs (flat_map (λ x. (hop s h x).answer v) ids)).keys v) (on_walk hs (flat_map (λ x. (hop s h x).answer v) ids) o.0 k (flat_in (λ x. (hop s h x).answer v) ids n o.0 i o.1) o.2)

  -- from an end of the first walk on
  on_past : (hs ks : List Hop) (ids : List ℕ) (x : ℕ) (k : Key) → In x ((walk s hs ids).answer v) → On ks x k → OnFrom (hs ++ ks) ids k
  unfolding On
  on_past [] ks ids x k i o = record { start = x; is_in = i; on = o }
  on_past (h ∷ hs) ks ids x k i o =
      let w = on_past hs ks (flat_map (λ x. (hop s h x).answer v) ids) x k i o in
      let r = in_flat (λ x. (hop s h x).answer v) ids w.start w.is_in in
      record { start = r.at; is_in = r.is_in; on = inr (w.start, r.gives, w.on) }

  record Past (hs ks : List Hop) (ids : List ℕ) (k : Key) : Type 0 where
    at_end : ℕ
    is_end : In at_end ((walk s hs ids).answer v)
    on_rest : On ks at_end k

  -- on the first walk, or past one of its ends
  past_on : (hs ks : List Hop) (ids : List ℕ) (n : ℕ) (k : Key) → In n ids → On (hs ++ ks) n k → In k ((walk s hs ids).keys v) ⊎ Past hs ks ids k
  unfolding On
  past_on [] ks ids n k i o = inr (record { at_end = n; is_end = i; on_rest = o })
  past_on (h ∷ hs) ks ids n k i (inl o) = inl (in_first k (flat_map (λ x. (hop s h x).keys v) ids) ((walk s hs (flat_map (λ x. (hop s h x).answer v) ids)).keys v) (flat_in (λ x. (hop s h x).keys v) ids n k i o))
  past_on (h ∷ hs) ks ids n k i (inr o) = elim (past_on hs ks (flat_map (λ x. (hop s h x).answer v) ids) o.0 k (flat_in (λ x. (hop s h x).answer v) ids n o.0 i o.1) o.2) [
    | inl a ↦ inl (in_last k (flat_map (λ x. (hop s h x).keys v) ids) ((walk s hs (flat_map (λ x. (hop s h x).answer v) ids)).keys v) a)
    | inr p ↦ inr (record { at_end = p.at_end; is_end = p.is_end; on_rest = p.on_rest })
  ]

  -- a longer walk looks at what a shorter one does
  on_longer : (hs : List Hop) (a : List ℕ) (n : ℕ) (k : Key) → On hs n k → On (hs ++ Forward a ∷ []) n k
  unfolding On
  on_longer [] a n k o = inl (inl o)
  on_longer (h ∷ hs) a n k (inl o) = inl o
  on_longer (h ∷ hs) a n k (inr o) = inr (o.0, o.1, on_longer hs a o.0 k o.2)

  abbrev hp : List ℕ
  hp = codes "HasProperties"

  abbrev hq : List ℕ
  hq = codes "Quantities"

  set_on : (n : ℕ) (k : Key) → In k ((set_path s n).keys v) → On (Forward hp ∷ []) n k ⊎ On (Forward hq ∷ []) n k
  unfolding On
  set_on n k (inl e) = inl (inl (inl e))
  set_on n k (inr h) = elim (in_parts k (flat_map (λ x. (stand x).keys v) (references_in s (v.instance n) hp ++ references_in s (v.instance n) hq)) [] h) [
    | inl a ↦
        let r = in_flat (λ x. (stand x).keys v) (references_in s (v.instance n) hp ++ references_in s (v.instance n) hq) k a in
        let e : k ≡ Inst r.at = elim r.gives [ inl e ↦ e | inr b ↦ absurd b ] in
        elim (in_parts r.at (references_in s (v.instance n) hp) (references_in s (v.instance n) hq) r.is_in) [
          | inl b ↦ inl (inr (r.at, b, e))
          | inr b ↦ inr (inr (r.at, b, e))
        ]
    | inr a ↦ absurd a
  ]

  on_set : (n : ℕ) (k : Key) → On (Forward hp ∷ []) n k ⊎ On (Forward hq ∷ []) n k → In k ((set_path s n).keys v)
  unfolding On
  on_set n k (inl (inl h)) = elim h [ inl e ↦ inl e | inr b ↦ absurd b ]
  on_set n k (inr (inl h)) = elim h [ inl e ↦ inl e | inr b ↦ absurd b ]
  on_set n k (inl (inr o)) = inr (in_first k (flat_map (λ x. (stand x).keys v) (references_in s (v.instance n) hp ++ references_in s (v.instance n) hq)) [] (flat_in (λ x. (stand x).keys v) (references_in s (v.instance n) hp ++ references_in s (v.instance n) hq) o.0 k (in_first o.0 (references_in s (v.instance n) hp) (references_in s (v.instance n) hq) o.1) (inl o.2)))
  on_set n k (inr (inr o)) = inr (in_first k (flat_map (λ x. (stand x).keys v) (references_in s (v.instance n) hp ++ references_in s (v.instance n) hq)) [] (flat_in (λ x. (stand x).keys v) (references_in s (v.instance n) hp ++ references_in s (v.instance n) hq) o.0 k (in_last o.0 (references_in s (v.instance n) hp) (references_in s (v.instance n) hq) o.1) (inl o.2)))

  abbrev hps : List ℕ
  hps = codes "HasPropertySets"

  abbrev to_own : List Hop
  to_own = Back Properties ∷ Forward (relationship Properties).relating ∷ []

  abbrev to_types : List Hop
  to_types = Back Kind ∷ Forward (relationship Kind).relating ∷ []

  abbrev sees : List ℕ → List Key
  sees ns = flat_map (λ x. (set_path s x).keys v) ns

  abbrev goes : List ℕ → List Key
  goes ns = flat_map (λ x. (hop s (Forward hps) x).keys v) ns

  abbrev gone : List ℕ → List ℕ
  gone ns = flat_map (λ x. (hop s (Forward hps) x).answer v) ns

  module _ (e : ℕ) (k : Key) where
    abbrev w1 : List Key
    w1 = (walk s to_own (e ∷ [])).keys v

    abbrev s1 : List ℕ
    s1 = (walk s to_own (e ∷ [])).answer v ++ references_in s (v.instance e) hps

    abbrev w2 : List Key
    w2 = (walk s to_types (e ∷ [])).keys v

    abbrev ts : List ℕ
    ts = (walk s to_types (e ∷ [])).answer v

    abbrev Parts : Type 0
    Parts = (k ≡ Inst e) ⊎ (In k w1 ⊎ (In k (sees s1) ⊎ (In k w2 ⊎ (In k (goes ts) ⊎ In k (sees (gone ts))))))

    abbrev Either : List Hop → Type 0
    Either hs = On (hs ++ Forward hp ∷ []) e k ⊎ On (hs ++ Forward hq ∷ []) e k

    abbrev Rows : Type 0
    Rows = Either to_own ⊎ (Either (Forward hps ∷ []) ⊎ Either (to_types ++ Forward hps ∷ []))

    parts : In k ((property_path s e).keys v) → Parts
    parts (inl h) = inl h
    parts (inr h) = inr (elim (in_parts k w1 (sees s1 ++ (w2 ++ (goes ts ++ (sees (gone ts) ++ [])))) h) [
      | inl a ↦ inl a
      | inr a ↦ inr (elim (in_parts k (sees s1) (w2 ++ (goes ts ++ (sees (gone ts) ++ []))) a) [
        | inl b ↦ inl b
        | inr b ↦ inr (elim (in_parts k w2 (goes ts ++ (sees (gone ts) ++ [])) b) [
          | inl c ↦ inl c
          | inr c ↦ inr (elim (in_parts k (goes ts) (sees (gone ts) ++ []) c) [
            | inl d ↦ inl d
            | inr d ↦ elim (in_parts k (sees (gone ts)) [] d) [ inl f ↦ inr f | inr f ↦ absurd f ]
          ])
        ])
      ])
    ])

    joined : Parts → In k ((property_path s e).keys v)
    joined (inl h) = inl h
    joined (inr (inl h)) = inr (in_first k w1 (sees s1 ++ (w2 ++ (goes ts ++ (sees (gone ts) ++ [])))) h)
    joined (inr (inr h)) = inr (in_last k w1 (sees s1 ++ (w2 ++ (goes ts ++ (sees (gone ts) ++ [])))) (elim h [
      | inl a ↦ in_first k (sees s1) (w2 ++ (goes ts ++ (sees (gone ts) ++ []))) a
      | inr a ↦ in_last k (sees s1) (w2 ++ (goes ts ++ (sees (gone ts) ++ []))) (elim a [
        | inl b ↦ in_first k w2 (goes ts ++ (sees (gone ts) ++ [])) b
        | inr b ↦ in_last k w2 (goes ts ++ (sees (gone ts) ++ [])) (elim b [
          | inl c ↦ in_first k (goes ts) (sees (gone ts) ++ []) c
          | inr c ↦ in_last k (goes ts) (sees (gone ts) ++ []) (in_first k (sees (gone ts)) [] c)
        ])
      ])
    ]))

    at_one : (hs : List Hop) → OnFrom hs (e ∷ []) k → On hs e k
    at_one hs o = elim o.is_in [ inl q ↦ subst (λ n. On hs n k) q o.on | inr b ↦ absurd b ]

    past : (hs ks : List Hop) (x : ℕ) → In x ((walk s hs (e ∷ [])).answer v) → On ks x k → On (hs ++ ks) e k
    past hs ks x i o = at_one (hs ++ ks) (on_past hs ks (e ∷ []) x k i o)

    to_rows : Parts → Rows
    unfolding On
    to_rows (inl h) = inr (inl (inl (inl (inl h))))
    to_rows (inr (inl h)) = inl (inl (on_longer to_own hp e k (at_one to_own (walk_on to_own (e ∷ []) k h))))
    to_rows (inr (inr (inl h))) =
        let r = in_flat (λ x. (set_path s x).keys v) s1 k h in
        elim (in_parts r.at ((walk s to_own (e ∷ [])).answer v) (references_in s (v.instance e) hps) r.is_in) [
          | inl a ↦ elim (set_on r.at k r.gives) [
            | inl o ↦ inl (inl (past to_own (Forward hp ∷ []) r.at a o))
            | inr o ↦ inl (inr (past to_own (Forward hq ∷ []) r.at a o))
          ]
          | inr a ↦ elim (set_on r.at k r.gives) [
            | inl o ↦ inr (inl (inl (inr (r.at, a, o))))
            | inr o ↦ inr (inl (inr (inr (r.at, a, o))))
          ]
        ]
    to_rows (inr (inr (inr (inl h)))) = inr (inr (inl (on_longer (to_types ++ Forward hps ∷ []) hp e k (on_longer to_types hps e k (at_one to_types (walk_on to_types (e ∷ []) k h))))))
    to_rows (inr (inr (inr (inr (inl h))))) =
        let r = in_flat (λ x. (hop s (Forward hps) x).keys v) ts k h in
        inr (inr (inl (past to_types (Forward hps ∷ Forward hp ∷ []) r.at r.is_in (inl r.gives))))
    to_rows (inr (inr (inr (inr (inr h))))) =
        let r = in_flat (λ x. (set_path s x).keys v) (gone ts) k h in
        let q = in_flat (λ x. (hop s (Forward hps) x).answer v) ts r.at r.is_in in
        elim (set_on r.at k r.gives) [
          | inl o ↦ inr (inr (inl (past to_types (Forward hps ∷ Forward hp ∷ []) q.at q.is_in (inr (r.at, q.gives, o)))))
          | inr o ↦ inr (inr (inr (past to_types (Forward hps ∷ Forward hq ∷ []) q.at q.is_in (inr (r.at, q.gives, o)))))
        ]

    own_part : (a : List ℕ) → ((x : ℕ) → On (Forward a ∷ []) x k → In k ((set_path s x).keys v)) → On (to_own ++ Forward a ∷ []) e k → Parts
    own_part a f o = elim (past_on to_own (Forward a ∷ []) (e ∷ []) e k (inl refl) o) [
      | inl h ↦ inr (inl h)
      | inr p ↦ inr (inr (inl (flat_in (λ x. (set_path s x).keys v) s1 p.at_end k (in_first p.at_end ((walk s to_own (e ∷ [])).answer v) (references_in s (v.instance e) hps) p.is_end) (f p.at_end p.on_rest))))
    ]

    direct_part : (a : List ℕ) → ((x : ℕ) → On (Forward a ∷ []) x k → In k ((set_path s x).keys v)) → On (Forward hps ∷ Forward a ∷ []) e k → Parts
    unfolding On
    direct_part a f (inl h) = elim h [ inl q ↦ inl q | inr b ↦ absurd b ]
    direct_part a f (inr o) = inr (inr (inl (flat_in (λ x. (set_path s x).keys v) s1 o.0 k (in_last o.0 ((walk s to_own (e ∷ [])).answer v) (references_in s (v.instance e) hps) o.1) (f o.0 o.2))))

    rest_part : (a : List ℕ) → ((x : ℕ) → On (Forward a ∷ []) x k → In k ((set_path s x).keys v)) → (t : ℕ) → In t ts → On (Forward hps ∷ Forward a ∷ []) t k → Parts
    unfolding On
    rest_part a f t i (inl h) = inr (inr (inr (inr (inl (flat_in (λ x. (hop s (Forward hps) x).keys v) ts t k i h)))))
    rest_part a f t i (inr o) = inr (inr (inr (inr (inr (flat_in (λ x. (set_path s x).keys v) (gone ts) o.0 k (flat_in (λ x. (hop s (Forward hps) x).answer v) ts t o.0 i o.1) (f o.0 o.2))))))

    type_part : (a : List ℕ) → ((x : ℕ) → On (Forward a ∷ []) x k → In k ((set_path s x).keys v)) → On (to_types ++ Forward hps ∷ Forward a ∷ []) e k → Parts
    type_part a f o = elim (past_on to_types (Forward hps ∷ Forward a ∷ []) (e ∷ []) e k (inl refl) o) [
      | inl h ↦ inr (inr (inr (inl h)))
      | inr p ↦ rest_part a f p.at_end p.is_end p.on_rest
    ]

    by_hp : (x : ℕ) → On (Forward hp ∷ []) x k → In k ((set_path s x).keys v)
    by_hp x o = on_set x k (inl o)

    by_hq : (x : ℕ) → On (Forward hq ∷ []) x k → In k ((set_path s x).keys v)
    by_hq x o = on_set x k (inr o)

    from_rows : Rows → Parts
    from_rows (inl (inl o)) = own_part hp by_hp o
    from_rows (inl (inr o)) = own_part hq by_hq o
    from_rows (inr (inl (inl o))) = direct_part hp by_hp o
    from_rows (inr (inl (inr o))) = direct_part hq by_hq o
    from_rows (inr (inr (inl o))) = type_part hp by_hp o
    from_rows (inr (inr (inr o))) = type_part hq by_hq o

    row_at : (hs : List Hop) → In hs property_row → On hs e k → In k (row_keys s v property_row e)
    row_at hs i o = flat_in (λ hs. (walk s hs (e ∷ [])).keys v) property_row hs k i (on_walk hs (e ∷ []) e k (inl refl) o)

    rows_in : Rows → In k (row_keys s v property_row e)
    rows_in (inl (inl o)) = row_at _ (inl refl) o
    rows_in (inl (inr o)) = row_at _ (inr (inl refl)) o
    rows_in (inr (inl (inl o))) = row_at _ (inr (inr (inl refl))) o
    rows_in (inr (inl (inr o))) = row_at _ (inr (inr (inr (inl refl)))) o
    rows_in (inr (inr (inl o))) = row_at _ (inr (inr (inr (inr (inl refl))))) o
    rows_in (inr (inr (inr o))) = row_at _ (inr (inr (inr (inr (inr (inl refl)))))) o

    on_at : (hs ks : List Hop) → hs ≡ ks → In k ((walk s hs (e ∷ [])).keys v) → On ks e k
    on_at hs ks q h = subst (λ zs. On zs e k) q (at_one hs (walk_on hs (e ∷ []) k h))

    in_rows : In k (row_keys s v property_row e) → Rows
    in_rows h =
        let r = in_flat (λ hs. (walk s hs (e ∷ [])).keys v) property_row k h in
        elim r.is_in [
          | inl q ↦ inl (inl (on_at r.at _ q r.gives))
          | inr a ↦ elim a [
            | inl q ↦ inl (inr (on_at r.at _ q r.gives))
            | inr b ↦ elim b [
              | inl q ↦ inr (inl (inl (on_at r.at _ q r.gives)))
              | inr c ↦ elim c [
                | inl q ↦ inr (inl (inr (on_at r.at _ q r.gives)))
                | inr d ↦ elim d [
                  | inl q ↦ inr (inr (inl (on_at r.at _ q r.gives)))
                  | inr f ↦ elim f [
                    | inl q ↦ inr (inr (inr (on_at r.at _ q r.gives)))
                    | inr g ↦ absurd g
                  ]
                ]
              ]
            ]
          ]
        ]

pub property_row_same : PropertyPathIsRow
property_row_same s v e k = (λ h. rows_in s v e k (to_rows s v e k (parts s v e k h)), λ h. joined s v e k (from_rows s v e k (in_rows s v e k h)))
