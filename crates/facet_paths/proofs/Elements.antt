-- An element, alone or with its types, and its ancestors.
use Rattle.std.proofs.Common.{◌≡◌, ℕ, List, [], ◌∷◌, ◌++◌, Bool, map, ap, sym, subst, inl, inr}
use Rattle.std.specs.Prelude.{Some, None}
use Rattle.std.specs.List.{flat_map}
use Rattle.ifc_base.specs.declared.key.Key.{Key}
use Rattle.ifc_base.specs.declared.key.Key.TheVariants.{Inst}
use Rattle.ifc_base.specs.declared.key.Role.{Role}
use Rattle.schema_table.specs.Schema.{Schema}
use Rattle.ifc_base.specs.declared.key.Role.TheVariants as role
use Rattle.schema_table.specs.Relationships.{relationship}
use Rattle.audit_model.specs.Hops.{hop}
use Rattle.audit_model.specs.Hops.Hop.{Back, Forward}
use Rattle.audit_model.specs.Keys.{Sight}
use Rattle.audit_model.specs.declared.facet.EntityFacet.{EntityFacet}
use Rattle.audit_model.specs.Facets.{entity_holds}
use Rattle.audit_model.specs.Reading.{told, stand, gather, ◌>>=◌}
use Rattle.audit_model.specs.Closures.{most_after}
use Rattle.audit_model.specs.Paths.{SeenKind, types, above, ancestors}
use Rattle.restrictions.specs.declared.condition.Condition.{Condition}
use Rattle.audit_model.specs.Verdicts.{seen_for}
use Rattle.closure_walk.specs.Walking.{In, SameKeys}
use Rattle.closure_walk.proofs.Members.{in_first, in_last, in_parts}
use Rattle.std.proofs.lemmas.List.{append-nil}
use Rattle.facet_paths.specs.Held.{entity_weighed}
use Rattle.facet_paths.specs.Reads.{Reads}
use Rattle.facet_paths.proofs.Joins.{reads_then}
use Rattle.facet_paths.proofs.Same.{same_is, same_more, told_read, closure_stands}

module _ (s : Schema) (v : Sight) where
  -- the path of types stands on its ends
  pub types_stood : (e : ℕ) (k : Key) → In k (flat_map (λ x. (stand x).keys v) ((types s e).answer v)) → In k ((types s e).keys v)
  types_stood e k i =
      let holders : List ℕ = (gather (hop s (Back role.Kind)) (e ∷ [])).answer v in
      let ends : List ℕ = (gather (hop s (Forward (relationship role.Kind).relating)) holders).answer v in
      let stood : List Key = flat_map (λ x. (stand x).keys v) ends in
      let looked : List Key = (gather (hop s (Forward (relationship role.Kind).relating)) holders).keys v in
      in_last k ((gather (hop s (Back role.Kind)) (e ∷ [])).keys v) (looked ++ (stood ++ [])) (in_last k looked (stood ++ []) (in_first k stood [] i))

  -- an element by itself
  pub seen_alone : (e : ℕ) (none : List ℕ) (a b : List Key) → none ≡ [] → b ≡ a ++ Inst e ∷ [] → Reads (seen_for s None e) v (record { itself = v.instance e; types = map v.instance none }) a b
  seen_alone e none a b h g = record { answer_is = ap (λ (xs : List ℕ). record { itself = v.instance e; types = map v.instance xs }) h; reads_same = same_is b _ g }

  pub seen_kind : (c : Condition) (e : ℕ) (kinds : List ℕ) (a b : List Key) → kinds ≡ (types s e).answer v → b ≡ a ++ Inst e ∷ (types s e).keys v
      → Reads (seen_for s (Some c) e) v (record { itself = v.instance e; types = map v.instance kinds }) a b
  seen_kind c e kinds a b h g =
      let stood : List Key = flat_map (λ x. (stand x).keys v) ((types s e).answer v) in
      record {
        answer_is = ap (λ (xs : List ℕ). record { itself = v.instance e; types = map v.instance xs }) h;
        reads_same = same_more b a (Inst e ∷ (types s e).keys v) (stood ++ []) (same_is b _ g) (λ k i. inr (types_stood e k (elim (in_parts k stood [] i) [ inl j ↦ j | inr j ↦ absurd j ])));
      }

  pub entity_none : (f : EntityFacet) (e : ℕ) (none : List ℕ) (b : Bool) (a l : List Key) → f.predefined ≡ None → none ≡ [] → l ≡ a ++ Inst e ∷ []
      → b ≡ entity_holds s f (record { itself = v.instance e; types = map v.instance none }) → Reads (entity_weighed s f e) v b a l
  entity_none f e none b a l p h g q =
      let k : SeenKind = record { itself = v.instance e; types = map v.instance none } in
      subst (λ o. Reads (seen_for s o e >>= λ z. told (entity_holds s f z)) v b a l) (sym p)
      (reads_then (seen_for s None e) (λ z. told (entity_holds s f z)) v k b a l l (seen_alone e none a l h g) (told_read (entity_holds s f k) b v l q))

  pub entity_some : (f : EntityFacet) (c : Condition) (e : ℕ) (kinds : List ℕ) (b : Bool) (a l : List Key) → f.predefined ≡ Some c → kinds ≡ (types s e).answer v → l ≡ a ++ Inst e ∷ (types s e).keys v
      → b ≡ entity_holds s f (record { itself = v.instance e; types = map v.instance kinds }) → Reads (entity_weighed s f e) v b a l
  entity_some f c e kinds b a l p h g q =
      let k : SeenKind = record { itself = v.instance e; types = map v.instance kinds } in
      subst (λ o. Reads (seen_for s o e >>= λ z. told (entity_holds s f z)) v b a l) (sym p)
      (reads_then (seen_for s (Some c) e) (λ z. told (entity_holds s f z)) v k b a l l (seen_kind c e kinds a l h g) (told_read (entity_holds s f k) b v l q))

  -- without the empty end
  pub entity_looked : (f : EntityFacet) (e : ℕ) (b : Bool) (a l : List Key) → Reads (entity_weighed s f e) v b a l → SameKeys l (a ++ (seen_for s f.predefined e).keys v)
  entity_looked f e b a l r = subst (λ ks. SameKeys l (a ++ ks)) (append-nil ((seen_for s f.predefined e).keys v)) r.reads_same

  -- the walk to the ancestors stands on them
  pub ancestors_stood : (roles : List Role) (e : ℕ) (k : Key) → In k (flat_map (λ x. (stand x).keys v) ((ancestors s roles e).answer v)) → In k ((ancestors s roles e).keys v)
  ancestors_stood roles e k i = in_last k ((above s roles e).keys v) _ (closure_stands most_after (above s roles) ((above s roles e).answer v) v k i)
