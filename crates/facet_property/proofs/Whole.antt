-- The calls one after another weigh the facet.
use Rattle.std.proofs.Common.{◌≡◌, ℕ, List, [], ◌∷◌, ◌++◌, sym, ap, ◌∙◌, codes}
use Rattle.std.specs.Borrow.{Bor}
use Rattle.std.specs.List.{filter, flat_map}
use Rattle.std.proofs.lemmas.List.{append-nil, append_assoc}
use Rattle.ifc_base.specs.declared.key.Key.{Key}
use Rattle.ifc_base.specs.declared.key.Key.TheVariants.{Inst}
use Rattle.ifc_base.specs.declared.key.Role.TheVariants as role
use Rattle.schema_table.specs.Schema.{Schema}
use Rattle.audit_model.specs.Keys.{Sight}
use Rattle.audit_model.specs.Reading.{visit, gather}
use Rattle.audit_model.specs.Hops.{hop, relating_things}
use Rattle.audit_model.specs.Hops.Hop.{Forward}
use Rattle.audit_model.specs.Paths.{SeenSet, SeenSets, set_path, types}
use Rattle.audit_model.specs.declared.facet.PropertyFacet.{PropertyFacet}
use Rattle.audit_model.specs.declared.facet.Facet.TheVariants as facet
use Rattle.audit_model.specs.declared.verdict.Weighed.{Weighed}
use Rattle.audit_model.specs.Properties.{properties_in, with_inherited, reaching}
use Rattle.audit_model.specs.Verdicts.{weigh}
use Rattle.facet_paths.specs.WalkEnds.{own_sets, sets_of_types, keys_of_types}
use Rattle.facet_property.specs.declared.find.Found.{Found}
use Rattle.facet_property.specs.Held.{Finds, own_seen, types_seen, texts_of, properties_of, is_asked, names_asked, properties_asked, weighed_by}
use Rattle.facet_property.proofs.Sentence.{names_joined, reaching_asked, weighed_is}

-- the sets' ids first, and then the sets
module _ (s : Schema) (f : PropertyFacet) (v : Sight) (e : ℕ) (names names' : List (Bor (List ℕ))) (found found' : List Found) where
  pub own_made : (sets ids : List ℕ) (a b c : List Key) → sets ≡ own_sets s v e → b ≡ a ++ Inst e ∷ (relating_things s role.Properties e).keys v → ids ≡ sets
      → Finds s f (visit (set_path s) ids) v names names' found found' b c → Finds s f (own_seen s e) v names names' found found' a c
  own_made sets ids a b c h g i q =
      let same : ids ≡ own_sets s v e = i ∙ h in
      let r : List Key = Inst e ∷ (relating_things s role.Properties e).keys v in
      let seen : List ℕ → List SeenSet = λ xs. (visit (set_path s) xs).answer v in
      let looked : List ℕ → List Key = λ xs. (visit (set_path s) xs).keys v in
      record {
        names_are = q.names_are ∙ ap (λ xs. texts_of names ++ names_asked s f (seen xs)) same;
        found_are = q.found_are ∙ ap (λ xs. properties_of found ++ properties_asked s f (seen xs)) same;
        reads_are = q.reads_are ∙ ap (λ ks. ks ++ looked ids) g ∙ append_assoc a r (looked ids) ∙ ap (λ xs. a ++ (r ++ looked xs)) same;
      }

  pub types_made : (sets ids : List ℕ) (a b c : List Key) → sets ≡ sets_of_types s v e → b ≡ a ++ keys_of_types s v e → ids ≡ sets
      → Finds s f (visit (set_path s) ids) v names names' found found' b c → Finds s f (types_seen s e) v names names' found found' a c
  types_made sets ids a b c h g i q =
      let same : ids ≡ sets_of_types s v e = i ∙ h in
      let t : List Key = (types s e).keys v in
      let hops : List Key = (gather (hop s (Forward (codes "HasPropertySets"))) ((types s e).answer v)).keys v in
      let seen : List ℕ → List SeenSet = λ xs. (visit (set_path s) xs).answer v in
      let looked : List ℕ → List Key = λ xs. (visit (set_path s) xs).keys v in
      record {
        names_are = q.names_are ∙ ap (λ xs. texts_of names ++ names_asked s f (seen xs)) same;
        found_are = q.found_are ∙ ap (λ xs. properties_of found ++ properties_asked s f (seen xs)) same;
        reads_are = q.reads_are ∙ ap (λ ks. ks ++ looked ids) g ∙ append_assoc a (t ++ hops) (looked ids) ∙ ap (λ ks. a ++ ks) (append_assoc t hops (looked ids)) ∙ ap (λ xs. a ++ (t ++ (hops ++ looked xs))) same;
      }

module _ (s : Schema) (f : PropertyFacet) (v : Sight) (e : ℕ) (n0 n1 n2 : List (Bor (List ℕ))) (p0 own p1 inherited all : List Found) (a b c : List Key) where
  pub weigh_made : (w : Weighed) → n0 ≡ [] → p0 ≡ [] → p1 ≡ [] → Finds s f (own_seen s e) v n0 n1 p0 own a b → Finds s f (types_seen s e) v n1 n2 p1 inherited b c
      → properties_of all ≡ with_inherited (properties_of own) (properties_of inherited)
      → w ≡ weighed_by s f (texts_of n2) (properties_of all) → w ≡ (weigh s (facet.Property f) e).answer v
  weigh_made w x y z g h k l =
      let ys : List SeenSet = (own_seen s e).answer v in
      let zs : List SeenSet = (types_seen s e).answer v in
      let seen : SeenSets = record { own = ys; of_types = zs } in
      let names : texts_of n2 ≡ names_asked s f (ys ++ zs) =
      h.names_are ∙ ap (λ ns. ns ++ names_asked s f zs) (g.names_are ∙ ap (λ ns. texts_of ns ++ names_asked s f ys) x) ∙ names_joined s f ys zs in
      let first : properties_of own ≡ properties_asked s f ys = g.found_are ∙ ap (λ ps. properties_of ps ++ properties_asked s f ys) y in
      let last : properties_of inherited ≡ properties_asked s f zs = h.found_are ∙ ap (λ ps. properties_of ps ++ properties_asked s f zs) z in
      let found : properties_of all ≡ filter (is_asked f) (reaching s seen) =
      k ∙ ap (λ ps. with_inherited ps (properties_of inherited)) first
      ∙ ap (λ ps. with_inherited (properties_asked s f ys) ps) last
      ∙ sym (reaching_asked f (flat_map (properties_in s) ys) (flat_map (properties_in s) zs)) in
      l ∙ ap (λ ns. weighed_by s f ns (properties_of all)) names ∙ ap (λ ps. weighed_by s f (names_asked s f (ys ++ zs)) ps) found ∙ sym (weighed_is s f seen)

  pub looked_made : Finds s f (own_seen s e) v n0 n1 p0 own a b → Finds s f (types_seen s e) v n1 n2 p1 inherited b c → c ≡ a ++ (weigh s (facet.Property f) e).keys v
  looked_made g h =
      let r : List Key = (relating_things s role.Properties e).keys v in
      let mine : List Key = (visit (set_path s) (own_sets s v e)).keys v in
      let t : List Key = (types s e).keys v in
      let hops : List Key = (gather (hop s (Forward (codes "HasPropertySets"))) ((types s e).answer v)).keys v in
      let theirs : List Key = (visit (set_path s) (sets_of_types s v e)).keys v in
      let own_keys : List Key = Inst e ∷ (r ++ mine) in
      let type_keys : List Key = t ++ (hops ++ theirs) in
      let one : c ≡ a ++ (own_keys ++ type_keys) = h.reads_are ∙ ap (λ ks. ks ++ type_keys) g.reads_are ∙ append_assoc a own_keys type_keys in
      let two : own_keys ++ type_keys ≡ Inst e ∷ (r ++ (mine ++ (t ++ (hops ++ (theirs ++ []))))) =
      ap (λ ks. Inst e ∷ ks) (append_assoc r mine type_keys ∙ ap (λ ks. r ++ (mine ++ (t ++ (hops ++ ks)))) (sym (append-nil theirs))) in
      let path : List Key = Inst e ∷ (r ++ (mine ++ (t ++ (hops ++ (theirs ++ []))))) in
      one ∙ ap (λ ks. a ++ ks) two ∙ ap (λ ks. a ++ ks) (sym (append-nil path))
