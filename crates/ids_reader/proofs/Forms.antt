-- The specifications that are read are as is asked of specifications.
use Rattle.std.proofs.Common.{◌≡◌, ◌∙◌, ◌+◌, ◌≤◌, ◌||◌, ◌∷◌, [], ℕ, suc, Bool, true, false, List, Option, Some, None, Result, Ok, Err, length, sym, ap, refl, subst, codes, arith}
use Rattle.std.specs.Prelude.{IfOk, nat_lt, not}
use Rattle.std.proofs.lemmas.List.{length-map}
use Rattle.ifc_base.specs.declared.memory.Refusal.{Refusal}
use Rattle.serde_json.specs.Data.{Data}
use Rattle.serde_json.specs.Find.{get}
use Rattle.schema_table.specs.Schema.{Schema}
use Rattle.audit_model.specs.declared.specification.Occurs.{Occurs}
use Rattle.audit_model.specs.declared.specification.Requirement.{Requirement}
use Rattle.audit_model.specs.declared.specification.Specification.{Specification}
use Rattle.audit_model.specs.Pairs.{NumberedFrom}
use Rattle.audit_model.specs.Specifications.{AreSpecifications, EachIsSpecification, IsSpecification}
use Rattle.ids_reader.specs.declared.fault.IdsFault.{IdsFault}
use Rattle.ids_reader.specs.declared.fault.IdsCause.TheVariants as cause
use Rattle.ids_reader.specs.declared.tables.Object.TheVariants as object
use Rattle.ids_reader.specs.Conditions.{fits}
use Rattle.ids_reader.specs.Documents.{document_form, document_of, ids_reading, value_reading}
use Rattle.ids_reader.specs.Members.{has_only, is_of, items_at}
use Rattle.ids_reader.specs.Reads.{Answers, refuse_if, Placed, placed, ◌>>>◌}
use Rattle.ids_reader.specs.Sides.{facets_from, alone}
use Rattle.ids_reader.specs.Specifications.{is_for, in_applicability, in_requirements, limited, occurs_from, occurs_of, stated_by, stated_from, specification_of, specifications_from}
use Rattle.ids_reader.specs.Standing.{form_of}
use Rattle.ids_reader.proofs.ReadsLemmas.{after, at_place, passed, placed_is, ok_is, turn_taken}
use Rattle.ids_reader.proofs.SideForms.{as_many, one_entity, each_as_asked}

-- ---- one specification

not_over : (most n : ℕ) → nat_lt most n ≡ false → n ≤ most
not_over most n h = grind (arith)

both_not : (a b : Bool) → (a || b) ≡ false → (a ≡ false) × (b ≡ false)
both_not true b h = cc
both_not false b h = (refl, h)

few_facets : (a d : Data) (occurs : Occurs) → limited a d ≡ Ok occurs
    → (length (items_at (codes "facets") a) ≤ 64) × (length (items_at (codes "requirements") d) ≤ 64)
unfolding limited
few_facets a d occurs h =
    let long = nat_lt 64 (length (items_at (codes "facets") a)) in
    let more = nat_lt 64 (length (items_at (codes "requirements") d)) in
    let p = both_not long more (passed (long || more) cause.TooMany (occurs_from (occurs_of a)) occurs h).0 in
    (not_over 64 (length (items_at (codes "facets") a)) p.0, not_over 64 (length (items_at (codes "requirements") d)) p.1)

abbrev made : ℕ → Bool → Occurs → List Requirement → List Requirement → Specification
made number for_model occurs applicable required =
    record { number = number; for_model = for_model; occurs = occurs; applicability = alone applicable; requirements = required }

required_taken : (number : ℕ) (for_model : Bool) (occurs : Occurs) (applicable : List Requirement) (read : Placed (List Requirement)) (q : Specification)
    → (read >>> λ required. Ok (made number for_model occurs applicable required)) ≡ Ok q
    → (required : List Requirement) × (read ≡ Ok required) × (made number for_model occurs applicable required ≡ q)
required_taken number for_model occurs applicable (Ok required) q h =
    let m = made number for_model occurs applicable required in (required, refl, placed_is m q (Ok m) refl h)
required_taken number for_model occurs applicable (Err fault) q h = cc

sides_taken : (number : ℕ) (for_model : Bool) (occurs : Occurs) (read more : Placed (List Requirement)) (q : Specification)
    → (read >>> λ applicable. (more >>> λ required. Ok (made number for_model occurs applicable required))) ≡ Ok q
    → (applicable : List Requirement) × (required : List Requirement) × (read ≡ Ok applicable) × (more ≡ Ok required) × (made number for_model occurs applicable required ≡ q)
sides_taken number for_model occurs (Ok applicable) more q h =
    let p = required_taken number for_model occurs applicable more q h in (applicable, p.0, refl, p.1, p.2)
sides_taken number for_model occurs (Err fault) more q h = cc

-- it has its number, and is as is asked of a specification
abbrev IsNumbered : ℕ → Specification → Type 0
IsNumbered number q = (q.number ≡ number) × IsSpecification q

module _ (s : Schema) where
  stated_is : (number : ℕ) (for_model : Bool) (a d : Data) (q : Specification) → stated_by s number for_model a d ≡ Ok q → IsNumbered number q
  unfolding stated_by alone
  stated_is number for_model a d q h =
      let facets = items_at (codes "facets") a in
      let asked = items_at (codes "requirements") d in
      let t = in_applicability number for_model in
      let u = in_requirements number for_model in
      let first = facets_from s t 1 false facets in
      let second = facets_from s u (1 + length facets) false asked in
      let o = after (placed number 0 (limited a d)) (λ occurs. (first >>> λ applicable. (second >>> λ required. Ok (made number for_model occurs applicable required)))) q h in
      let few = few_facets a d o.0 (at_place number 0 (limited a d) o.0 o.1) in
      let p = sides_taken number for_model o.0 first second q o.2 in
      let n = as_many s t 1 false facets p.0 p.2 in
      let m = as_many s u (1 + length facets) false asked p.1 p.3 in
      subst (IsNumbered number) p.4 (
        refl,
        record {
          few_facets = subst (λ k. k ≤ 64) (sym (length-map p.0 (λ r. r.facet) ∙ n)) few.0;
          few_requirements = subst (λ k. k ≤ 64) (sym m) few.1;
          one_entity = one_entity s number for_model 1 false facets p.0 p.2;
          cardinalities = each_as_asked s number for_model (1 + length facets) false asked p.1 p.3;
        },
      )

  from_stated : (number : ℕ) (for_model : Bool) (a : Option Data) (d : Data) (q : Specification) → stated_from s number for_model a d ≡ Ok q → IsNumbered number q
  from_stated number for_model (Some a) d q h = stated_is number for_model a d q h
  from_stated number for_model None d q h = cc

  module _ (schema_id : List ℕ) where
    specification_is : (number : ℕ) (d : Data) (q : Specification) → specification_of s schema_id number d ≡ Ok q → IsNumbered number q
    unfolding specification_of
    specification_is number d q h =
        let a = get (codes "applicability") d in
        let for_model = is_for schema_id d in
        let p = after (placed number 0 (form_of object.Specification d)) (λ form. stated_from s number for_model a d) q h in
        from_stated number for_model a d q p.2

    -- ---- all of them

    specifications_are : (number : ℕ) (ds : List Data) (qs : List Specification) → specifications_from s schema_id number ds ≡ Ok qs
        → NumberedFrom number qs × EachIsSpecification qs × (length qs ≡ length ds)
    unfolding specifications_from
    specifications_are number [] qs h =
        subst (λ qs. NumberedFrom number qs × EachIsSpecification qs × (length qs ≡ 0)) (placed_is [] qs (Ok []) refl h) (tt, tt, refl)
    specifications_are number (d ∷ ds) qs h =
        let p = turn_taken (specification_of s schema_id number d) (λ q. specifications_from s schema_id (number + 1) ds) qs h in
        let one = specification_is number d p.0 p.2 in
        let more = specifications_are (number + 1) ds p.1 p.3 in
        subst (λ qs. NumberedFrom number qs × EachIsSpecification qs × (length qs ≡ suc (length ds))) p.4
        ((one.0, more.0), (one.1, more.1), ap (λ n. suc n) more.2)

    few_specifications : (d : Data) (items : List Data) → document_form d ≡ Ok items → length items ≤ 1000
    unfolding document_form
    few_specifications d items h =
        let found = items_at (codes "specifications") d in
        let many = nat_lt 1000 (length found) in
        let last = refuse_if many cause.TooMany (Ok found) in
        let p = passed (not (is_of fits object.Document d)) cause.Shape (refuse_if (not (has_only object.Document d)) cause.UnknownMember last) items h in
        let q = passed (not (has_only object.Document d)) cause.UnknownMember last items p.1 in
        let r = passed many cause.TooMany (Ok found) items q.1 in
        subst (λ ds. length ds ≤ 1000) (ok_is found items (Ok found) refl r.1) (not_over 1000 (length found) r.0)

    document_is : (d : Data) (qs : List Specification) → document_of s schema_id d ≡ Ok qs → AreSpecifications qs
    unfolding document_of
    document_is d qs h =
        let p = after (placed 0 0 (document_form d)) (specifications_from s schema_id 1) qs h in
        let few = few_specifications d p.0 (at_place 0 0 (document_form d) p.0 p.1) in
        let are = specifications_are 1 p.0 qs p.2 in
        record { numbered = are.0; few = subst (λ n. n ≤ 1000) (sym are.2) few; each = are.1 }

    reading_is : (bytes : List ℕ) (qs : List Specification) → ids_reading s schema_id bytes ≡ Ok qs → AreSpecifications qs
    unfolding ids_reading
    reading_is bytes qs h = let p = after (value_reading bytes) (document_of s schema_id) qs h in document_is p.0 qs p.2

    pub form_of_answer : (bytes : List ℕ) (r : Result (List Specification) (Refusal IdsFault)) → Answers (ids_reading s schema_id bytes) r → IfOk r AreSpecifications
    form_of_answer bytes (Ok qs) h = reading_is bytes qs h
    form_of_answer bytes (Err e) h = tt
