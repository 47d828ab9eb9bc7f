-- What calls one after the other read is what the path of the partOf facet reads.
use Rattle.std.proofs.Common.{◌≡◌, ◌<◌, ◌+◌, ℕ, List, ◌++◌, Bool, ◌&&◌, ◌||◌, length, take, get_or, map, refl, sym, ◌∙◌}
use Rattle.std.specs.Prelude.{Option, Some, None, is_some}
use Rattle.std.specs.List.{list_any}
use Rattle.ifc_base.specs.declared.value.Instance.{Instance}
use Rattle.ifc_base.specs.declared.key.Key.{Key}
use Rattle.schema_table.specs.Schema.{Schema}
use Rattle.audit_model.specs.Keys.{Sight}
use Rattle.audit_model.specs.declared.facet.EntityFacet.{EntityFacet}
use Rattle.audit_model.specs.declared.facet.PartOfFacet.{PartOfFacet}
use Rattle.audit_model.specs.Facets.{entity_holds}
use Rattle.audit_model.specs.Reading.{told, visit, ◌>>=◌}
use Rattle.audit_model.specs.Paths.{SeenKind, ancestors, part_of_path}
use Rattle.audit_model.specs.Relations.{roles_of, part_of_any, part_of_kind}
use Rattle.audit_model.specs.Verdicts.{seen_for, part_of_weighed}
use Rattle.closure_walk.specs.Walking.{SameKeys}
use Rattle.facet_paths.proofs.Elements.{ancestors_stood}
use Rattle.facet_paths.specs.Reads.{Reads}
use Rattle.facet_paths.proofs.Joins.{reads_then}
use Rattle.facet_paths.proofs.Same.{told_read, stands_more, any_next}

module _ (s : Schema) (v : Sight) where
  there_and_holds : (f : EntityFacet) (o : Option Instance) (ts : List (Option Instance)) → (is_some o && entity_holds s f (record { itself = o; types = ts })) ≡ entity_holds s f (record { itself = o; types = ts })
  there_and_holds f None ts = refl
  there_and_holds f (Some x) ts = refl

  -- one ancestor more
  pub kind_more : (f : EntityFacet) (ids : List ℕ) (i x : ℕ) (found one both : Bool) → i < length ids → x ≡ get_or ids i x
      → found ≡ part_of_kind s f ((visit (seen_for s f.predefined) (take i ids)).answer v) → one ≡ entity_holds s f ((seen_for s f.predefined x).answer v) → both ≡ (found || one)
      → both ≡ part_of_kind s f ((visit (seen_for s f.predefined) (take (i + 1) ids)).answer v)
  kind_more f ids i x found one both l e h g b =
      let seen : ℕ → SeenKind = λ y. (seen_for s f.predefined y).answer v in
      let test : SeenKind → Bool = λ k. is_some k.itself && entity_holds s f k in
      b ∙ (λ j. h j || (g ∙ sym (there_and_holds f (seen x).itself (seen x).types)) j) ∙ sym (any_next test seen ids i x l e)

  pub any_made : (f : PartOfFacet) (e : ℕ) (ids : List ℕ) (b : Bool) (a l : List Key) → Reads (ancestors s (roles_of f.relation) e) v ids a l → b ≡ list_any is_some (map v.instance ids)
      → Reads (part_of_weighed s f None e) v b a l
  any_made f e ids b a l h g =
      let path : Reads (part_of_path s (roles_of f.relation) e) v (map v.instance ids) a l = stands_more (ancestors s (roles_of f.relation) e) ids v a l h (ancestors_stood s v (roles_of f.relation) e) in
      reads_then (part_of_path s (roles_of f.relation) e) (λ seen. told (part_of_any s seen)) v (map v.instance ids) b a l l path (told_read (part_of_any s (map v.instance ids)) b v l g)

  pub kind_made : (f : PartOfFacet) (entity : EntityFacet) (e : ℕ) (ids : List ℕ) (b : Bool) (a c l : List Key) → Reads (ancestors s (roles_of f.relation) e) v ids a c
      → b ≡ part_of_kind s entity ((visit (seen_for s entity.predefined) ids).answer v) → SameKeys l (c ++ (visit (seen_for s entity.predefined) ids).keys v)
      → Reads (part_of_weighed s f (Some entity) e) v b a l
  kind_made f entity e ids b a c l h g q =
      let seen : List SeenKind = (visit (seen_for s entity.predefined) ids).answer v in
      reads_then (ancestors s (roles_of f.relation) e) (λ is. visit (seen_for s entity.predefined) is >>= λ z. told (part_of_kind s entity z)) v ids b a c l h
      (reads_then (visit (seen_for s entity.predefined) ids) (λ z. told (part_of_kind s entity z)) v seen b c l l (record { answer_is = refl; reads_same = q }) (told_read (part_of_kind s entity seen) b v l g))
