-- Each facet looks along its rows of the table of paths.
use Rattle.std.proofs.Common.{ℕ, List, [], ◌∷◌, ◌++◌, refl, sym, subst, inl, inr, Option, Some, None, map}
use Rattle.std.specs.List.{flat_map}
use Rattle.std.proofs.lemmas.List.{append-nil}
use Rattle.ifc_base.specs.declared.key.Key.{Key}
use Rattle.ifc_base.specs.declared.key.Key.TheVariants.{Inst}
use Rattle.ifc_base.specs.declared.key.Role.{Role}
use Rattle.ifc_base.specs.declared.key.Role.TheVariants as role
use Rattle.audit_model.specs.declared.facet.Facet.{Facet}
use Rattle.audit_model.specs.declared.facet.Facet.TheVariants.{Entity, Attribute, Property, Classification, Material, PartOf}
use Rattle.audit_model.specs.declared.facet.EntityFacet.{EntityFacet}
use Rattle.audit_model.specs.declared.facet.PartOfFacet.{PartOfFacet}
use Rattle.restrictions.specs.declared.condition.Condition.{Condition}
use Rattle.audit_model.specs.Reading.{visit}
use Rattle.audit_model.specs.Hops.{Hop, hop, walk}
use Rattle.audit_model.specs.Hops.Hop.{Back, Forward}
use Rattle.audit_model.specs.Closures.{closure, most_after}
use Rattle.audit_model.specs.Paths.{kind_path, property_path, classification_path, material_path, above, ancestors, part_of_path}
use Rattle.audit_model.specs.Relations.{roles_of}
use Rattle.audit_model.specs.Verdicts.{seen_for, part_of_weighed, weigh}
use Rattle.audit_model.specs.Keys.{Sight}
use Rattle.schema_table.specs.Schema.{Schema}
use Rattle.closure_walk.specs.Walking.{In, SameKeys}
use Rattle.closure_walk.specs.Ties.{row_keys, kind_row, property_row}
use Rattle.closure_walk.specs.Table.{by_role, row, table_keys, classification_rows, material_rows, part_of_rows}
use Rattle.closure_walk.specs.Table.Leg.{Hops}
use Rattle.closure_walk.specs.FacetRows.{kind_rows, property_rows, entity_rows, ancestor_rows, relation_rows, facet_rows, FacetLooksAlongRows}
use Rattle.closure_walk.proofs.Members.{in_first, in_last, in_parts, in_flat, flat_in}
use Rattle.closure_walk.proofs.Splits.{walk_splits}
use Rattle.closure_walk.proofs.Ties.{kind_row_same}
use Rattle.closure_walk.proofs.PropertyRow.{property_row_same}
use Rattle.closure_walk.proofs.TableLaws.{only, material_is_rows, classification_is_rows, part_of_is_rows}

-- what is told at the end looks at nothing
ends_nothing : (ks ls : List Key) → SameKeys ks ls → SameKeys (ks ++ []) ls
ends_nothing ks ls same k = (λ i. (same k).0 (only k ks i), λ i. in_first k ks [] ((same k).1 i))

module _ (s : Schema) (v : Sight) (e : ℕ) where
  -- a row that is one walk
  abbrev walked : List Hop → List Key
  walked hs = (walk s hs (e ∷ [])).keys v

  begins : (h : Hop) (hs : List Hop) → In (Inst e) ((hop s h e).keys v) → In (Inst e) (walked (h ∷ hs))
  begins h hs i = in_first (Inst e) (flat_map (λ x. (hop s h x).keys v) (e ∷ [])) _ (in_first (Inst e) ((hop s h e).keys v) [] i)

  starts : (hs : List Hop) → In (Inst e) (walked hs)
  starts [] = inl refl
  starts (Back r ∷ hs) = begins (Back r) hs (inl refl)
  starts (Forward a ∷ hs) = begins (Forward a) hs (inl refl)

  one_walk : (hs : List Hop) (k : Key) → In k ((row s (Hops hs ∷ []) e).keys v) → In k (walked hs)
  one_walk hs k (inl here) = subst (λ x. In x (walked hs)) (sym here) (starts hs)
  one_walk hs k (inr i) = only k (walked hs) i

  walks_there : (rows : List (List Hop)) (k : Key) → In k (row_keys s v rows e) → In k (table_keys s v (map (λ hs. Hops hs ∷ []) rows) e)
  walks_there [] k i = absurd i
  walks_there (hs ∷ rows) k i = elim (in_parts k (walked hs) (row_keys s v rows e) i) [
    | inl a ↦ in_first k ((row s (Hops hs ∷ []) e).keys v) _ (inr (in_first k (walked hs) [] a))
    | inr b ↦ in_last k ((row s (Hops hs ∷ []) e).keys v) _ (walks_there rows k b)
  ]

  walks_here : (rows : List (List Hop)) (k : Key) → In k (table_keys s v (map (λ hs. Hops hs ∷ []) rows) e) → In k (row_keys s v rows e)
  walks_here [] k i = absurd i
  walks_here (hs ∷ rows) k i = elim (in_parts k ((row s (Hops hs ∷ []) e).keys v) _ i) [
    | inl a ↦ in_first k (walked hs) _ (one_walk hs k a)
    | inr b ↦ in_last k (walked hs) _ (walks_here rows k b)
  ]

  by_walks : (rows : List (List Hop)) (ks : List Key) → SameKeys ks (row_keys s v rows e) → SameKeys ks (table_keys s v (map (λ hs. Hops hs ∷ []) rows) e)
  by_walks rows ks same k = (λ i. walks_there rows k ((same k).0 i), λ i. (same k).1 (walks_here rows k i))

  kind_same : SameKeys ((kind_path s e).keys v) (table_keys s v kind_rows e)
  kind_same = by_walks kind_row ((kind_path s e).keys v) (kind_row_same s v e)

  property_same : SameKeys ((property_path s e).keys v) (table_keys s v property_rows e)
  property_same = by_walks property_row ((property_path s e).keys v) (property_row_same s v e)

  entity_same : (asked : Option Condition) → SameKeys ((seen_for s asked e).keys v) (table_keys s v (entity_rows asked) e)
  entity_same None k = (λ i. i, λ i. i)
  entity_same (Some c) k = kind_same k

  module _ (roles : List Role) where
    abbrev up : List ℕ
    up = (above s roles e).answer v

    abbrev up_keys : List Key
    up_keys = (above s roles e).keys v

    abbrev further : List ℕ → List Key
    further ids = (closure most_after (above s roles) ids).keys v

    abbrev found : List ℕ → List ℕ
    found ids = (closure most_after (above s roles) ids).answer v

    abbrev along_kind : List ℕ → List Key
    along_kind ids = (walk s (by_role role.Kind) ids).keys v

    -- what the row looks at from the ends of its first leg
    abbrev on_from : List ℕ → List Key
    on_from ids = further ids ++ (along_kind (found ids) ++ [])

    abbrev KindsPath : List Key
    KindsPath = (up_keys ++ further up) ++ flat_map (λ x. (kind_path s x).keys v) (found up)

    abbrev KindsRow : List Key
    KindsRow = Inst e ∷ ((up_keys ++ []) ++ on_from (up ++ []))

    on_there : (k : Key) → In k (on_from up) → In k (KindsRow ++ [])
    on_there k i = in_first k KindsRow [] (inr (in_last k (up_keys ++ []) _ (subst (λ ids. In k (on_from ids)) (sym (append-nil up)) i)))

    kinds_there : (k : Key) → In k KindsPath → In k (KindsRow ++ [])
    kinds_there k i = elim (in_parts k (up_keys ++ further up) _ i) [
      | inl a ↦ elim (in_parts k up_keys (further up) a) [
        | inl b ↦ in_first k KindsRow [] (inr (in_first k (up_keys ++ []) _ (in_first k up_keys [] b)))
        | inr b ↦ on_there k (in_first k (further up) _ b)
      ]
      | inr a ↦
          let x = in_flat (λ x. (kind_path s x).keys v) (found up) k a in
          let at : In k ((walk s (by_role role.Kind) (x.at ∷ [])).keys v) = only k ((walk s (by_role role.Kind) (x.at ∷ [])).keys v) ((kind_row_same s v x.at k).0 x.gives) in
          on_there k (in_last k (further up) _ (in_first k (along_kind (found up)) [] ((walk_splits s v (by_role role.Kind)).from_key (found up) x.at k x.is_in at)))
    ]

    kinds_here : (k : Key) → In k (KindsRow ++ []) → In k KindsPath
    kinds_here k i = elim (only k KindsRow i) [
      | inl here ↦ in_first k (up_keys ++ further up) _ (in_first k up_keys (further up) (inl here))
      | inr a ↦ elim (in_parts k (up_keys ++ []) _ a) [
        | inl b ↦ in_first k (up_keys ++ further up) _ (in_first k up_keys (further up) (only k up_keys b))
        | inr b ↦ elim (in_parts k (further up) _ (subst (λ ids. In k (on_from ids)) (append-nil up) b)) [
          | inl c ↦ in_first k (up_keys ++ further up) _ (in_last k up_keys (further up) c)
          | inr c ↦
              let x = (walk_splits s v (by_role role.Kind)).key_from (found up) k (only k (along_kind (found up)) c) in
              in_last k (up_keys ++ further up) _ (flat_in (λ x. (kind_path s x).keys v) (found up) x.at k x.is_in ((kind_row_same s v x.at k).1 (in_first k ((walk s (by_role role.Kind) (x.at ∷ [])).keys v) [] x.gives)))
        ]
      ]
    ]

    ancestor_same : (asked : Option Condition) → SameKeys ((ancestors s roles e).keys v ++ (visit (seen_for s asked) ((ancestors s roles e).answer v)).keys v) (table_keys s v (ancestor_rows roles asked) e)
    ancestor_same None k = part_of_is_rows s v roles e k
    ancestor_same (Some c) k = (kinds_there k, kinds_here k)

  relation_same : (f : PartOfFacet) (entity : Option EntityFacet) → SameKeys ((part_of_weighed s f entity e).keys v) (table_keys s v (relation_rows (roles_of f.relation) entity) e)
  relation_same f None k = ends_nothing ((part_of_path s (roles_of f.relation) e).keys v) (table_keys s v (part_of_rows (roles_of f.relation)) e) (part_of_is_rows s v (roles_of f.relation) e) k
  relation_same f (Some entity) k =
      let to : List Key = (ancestors s (roles_of f.relation) e).keys v in
      let from : List Key = (visit (seen_for s entity.predefined) ((ancestors s (roles_of f.relation) e).answer v)).keys v in
      let same = ancestor_same (roles_of f.relation) entity.predefined k in (
        λ i. same.0 (elim (in_parts k to (from ++ []) i) [ inl a ↦ in_first k to from a | inr b ↦ in_last k to from (only k from b) ]),
        λ i. elim (in_parts k to from (same.1 i)) [ inl a ↦ in_first k to (from ++ []) a | inr b ↦ in_last k to (from ++ []) (in_first k from [] b) ],
      )

  facet_same : (f : Facet) → SameKeys ((weigh s f e).keys v) (table_keys s v (facet_rows f) e)
  facet_same (Entity f) k = ends_nothing ((seen_for s f.predefined e).keys v) (table_keys s v (entity_rows f.predefined) e) (entity_same f.predefined) k
  facet_same (Attribute f) k = (λ i. i, λ i. i)
  facet_same (Property f) k = ends_nothing ((property_path s e).keys v) (table_keys s v property_rows e) property_same k
  facet_same (Classification f) k = ends_nothing ((classification_path s e).keys v) (table_keys s v classification_rows e) (classification_is_rows s v e) k
  facet_same (Material f) k = ends_nothing ((material_path s e).keys v) (table_keys s v material_rows e) (material_is_rows s v e) k
  facet_same (PartOf f) k = ends_nothing ((part_of_weighed s f f.entity e).keys v) (table_keys s v (relation_rows (roles_of f.relation) f.entity) e) (relation_same f f.entity) k

pub facet_looks_along_rows : FacetLooksAlongRows
facet_looks_along_rows s v f e = facet_same s v e f
