-- The facets of a side that are read: as many as were given, with cardinalities that they may have, and at most one entity facet in an
-- applicability.
use Rattle.std.proofs.Common.{◌≡◌, ◌∙◌, ◌+◌, ◌≤◌, ◌&&◌, ◌||◌, ◌∷◌, [], ℕ, suc, Bool, true, false, cond, List, Ok, length, map, sym, ap, ap₂, refl, subst, arith}
use Rattle.std.specs.Prelude.{count_by}
use Rattle.std.specs.List.{list_all}
use Rattle.std.proofs.lemmas.List.Sums.{sum_by-cons}
use Rattle.serde_json.specs.Data.{Data}
use Rattle.schema_table.specs.Schema.{Schema}
use Rattle.audit_model.specs.declared.facet.Facet.{Facet}
use Rattle.audit_model.specs.declared.specification.Requirement.{Requirement}
use Rattle.audit_model.specs.Specifications.{is_entity, may_be_asked}
use Rattle.ids_reader.specs.declared.standing.Setting.{Setting}
use Rattle.ids_reader.specs.Sides.{facet_at, facets_from, closed_after, alone}
use Rattle.ids_reader.specs.Specifications.{in_applicability, in_requirements}
use Rattle.ids_reader.proofs.FacetForms.{placed_facet_stands}
use Rattle.ids_reader.proofs.ReadsLemmas.{turn_taken, placed_is}

-- how many entity facets may still come
abbrev pub room : Bool → ℕ
room true = 0
room false = 1

room_left : (closed e : Bool) (n : ℕ) → (closed && e) ≡ false → n ≤ room (closed || e) → cond e 1 0 + n ≤ room closed
room_left true true n h less = cc
room_left true false n h less = let l : n ≤ 0 = less in omega (arith, l)
room_left false true n h less = let l : n ≤ 0 = less in omega (arith, l)
room_left false false n h less = let l : n ≤ 1 = less in omega (arith, l)

one_more : (f : Facet) (fs : List Facet) → count_by is_entity (f ∷ fs) ≡ cond (is_entity f) 1 0 + count_by is_entity fs
one_more f fs = sum_by-cons (λ f. cond (is_entity f) 1 0) f fs

module _ (s : Schema) where
  module _ (t : Setting) where
    pub as_many : (place : ℕ) (closed : Bool) (ds : List Data) (rs : List Requirement) → facets_from s t place closed ds ≡ Ok rs → length rs ≡ length ds
    unfolding facets_from
    as_many place closed [] rs h = ap length (sym (placed_is [] rs (Ok []) refl h))
    as_many place closed (d ∷ ds) rs h =
        let p = turn_taken (facet_at s t place closed d) (λ r. facets_from s t (place + 1) (closed_after t.side closed r.facet) ds) rs h in
        sym (ap length p.4) ∙ ap (λ n. suc n) (as_many (place + 1) (closed_after t.side closed p.0.facet) ds p.1 p.3)

  pub one_entity : (spec : ℕ) (for_model : Bool) (place : ℕ) (closed : Bool) (ds : List Data) (rs : List Requirement)
      → facets_from s (in_applicability spec for_model) place closed ds ≡ Ok rs → count_by is_entity (alone rs) ≤ room closed
  unfolding facets_from closed_after alone
  one_entity spec for_model place closed [] rs h =
      subst (λ rs. count_by is_entity (map (λ r. r.facet) rs) ≤ room closed) (placed_is [] rs (Ok []) refl h) (omega arith)
  one_entity spec for_model place closed (d ∷ ds) rs h =
      let t = in_applicability spec for_model in
      let p = turn_taken (facet_at s t place closed d) (λ r. facets_from s t (place + 1) (closed_after t.side closed r.facet) ds) rs h in
      let rest = one_entity spec for_model (place + 1) (closed || is_entity p.0.facet) ds p.1 p.3 in
      subst (λ rs. count_by is_entity (map (λ r. r.facet) rs) ≤ room closed) p.4
      (subst (λ n. n ≤ room closed) (sym (one_more p.0.facet (map (λ r. r.facet) p.1)))
      (room_left closed (is_entity p.0.facet) (count_by is_entity (map (λ r. r.facet) p.1)) (placed_facet_stands s t place closed d p.0 p.2).0 rest))

  pub each_as_asked : (spec : ℕ) (for_model : Bool) (place : ℕ) (closed : Bool) (ds : List Data) (rs : List Requirement)
      → facets_from s (in_requirements spec for_model) place closed ds ≡ Ok rs → list_all (λ r. may_be_asked r.facet r.cardinality) rs ≡ true
  unfolding facets_from
  each_as_asked spec for_model place closed [] rs h = ap (list_all (λ r. may_be_asked r.facet r.cardinality)) (sym (placed_is [] rs (Ok []) refl h))
  each_as_asked spec for_model place closed (d ∷ ds) rs h =
      let t = in_requirements spec for_model in
      let p = turn_taken (facet_at s t place closed d) (λ r. facets_from s t (place + 1) (closed_after t.side closed r.facet) ds) rs h in
      let rest = each_as_asked spec for_model (place + 1) (closed_after t.side closed p.0.facet) ds p.1 p.3 in
      sym (ap (list_all (λ r. may_be_asked r.facet r.cardinality)) p.4) ∙ ap₂ (λ a b. a && b) (placed_facet_stands s t place closed d p.0 p.2).1 rest
