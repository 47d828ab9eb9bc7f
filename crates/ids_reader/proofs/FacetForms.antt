-- A facet that is read may stand where it stands, with its cardinality.
use Rattle.std.proofs.Common.{◌≡◌, ◌∙◌, ◌&&◌, ℕ, Bool, true, false, not, Option, Some, None, Ok, Err, sym, ap, refl, subst}
use Rattle.std.specs.Prelude.{⊤}
use Rattle.serde_json.specs.Data.{Data}
use Rattle.schema_table.specs.Schema.{Schema}
use Rattle.audit_model.specs.declared.facet.Facet.{Facet}
use Rattle.audit_model.specs.declared.facet.Facet.TheVariants as facet
use Rattle.audit_model.specs.declared.specification.Cardinality.{Cardinality}
use Rattle.audit_model.specs.declared.specification.Requirement.{Requirement}
use Rattle.audit_model.specs.Specifications.{is_entity, may_be_asked}
use Rattle.ids_reader.specs.declared.fault.IdsCause.TheVariants as cause
use Rattle.ids_reader.specs.declared.standing.Setting.{Setting}
use Rattle.ids_reader.specs.declared.standing.Side.{Side}
use Rattle.ids_reader.specs.declared.standing.Side.TheVariants as side
use Rattle.ids_reader.specs.declared.tables.FacetKind.{FacetKind}
use Rattle.ids_reader.specs.declared.tables.FacetKind.TheVariants as kind
use Rattle.ids_reader.specs.Facets.{value_of, entity_of, attribute_of, property_of, classification_of, material_of, part_of_of, names_unknown}
use Rattle.ids_reader.specs.Reads.{Read, ◌>>=◌, refuse_if}
use Rattle.ids_reader.specs.Sides.{declared_of, facet_of, facet_at}
use Rattle.ids_reader.specs.Standing.{word_from, word_of, kind_said, is_entity_kind, may_require, is_allowed, allowed_from, cardinality_of, cardinality_said, form_of, object_of, size_of, head_of}
use Rattle.ids_reader.proofs.ReadsLemmas.{ok_is, passed, is_passed, at_place}

-- ---- what it says is of its kind

abbrev IsOfKind : FacetKind → Facet → Type 0
IsOfKind kind f = (is_entity f ≡ is_entity_kind kind) × ((c : Cardinality) → may_be_asked f c ≡ may_require kind c)

of_kind : {A : Type 0} (kind : FacetKind) (make : A → Facet) (read : Read A) (f : Facet) → ((x : A) → IsOfKind kind (make x))
    → (read >>= λ x. Ok (make x)) ≡ Ok f → IsOfKind kind f
of_kind kind make (Ok x) f each h = subst (IsOfKind kind) (ok_is (make x) f (Ok (make x)) refl h) (each x)
of_kind kind make (Err why) f each h = cc

value_kind : (kind : FacetKind) (d : Data) (f : Facet) → value_of kind d ≡ Ok f → IsOfKind kind f
unfolding value_of is_entity_kind may_require
value_kind kind.Entity d f h = of_kind kind.Entity (λ x. facet.Entity x) (entity_of d) f (λ x. (refl, λ c. refl)) h
value_kind kind.Attribute d f h = of_kind kind.Attribute (λ x. facet.Attribute x) (attribute_of d) f (λ x. (refl, λ c. refl)) h
value_kind kind.Property d f h = of_kind kind.Property (λ x. facet.Property x) (property_of d) f (λ x. (refl, λ c. refl)) h
value_kind kind.Classification d f h = of_kind kind.Classification (λ x. facet.Classification x) (classification_of d) f (λ x. (refl, λ c. refl)) h
value_kind kind.Material d f h = of_kind kind.Material (λ x. facet.Material x) (material_of d) f (λ x. (refl, λ c. refl)) h
value_kind kind.PartOf d f h = of_kind kind.PartOf (λ x. facet.PartOf x) (part_of_of d) f (λ x. (refl, λ c. refl)) h

-- ---- what was read on the way

parts_taken : (kind : FacetKind) (form : Read ⊤) (c : Read Cardinality) (size : Read ⊤) (head : FacetKind × Cardinality)
    → (form >>= λ a. (c >>= λ x. (size >>= λ b. Ok (kind, x)))) ≡ Ok head → (kind ≡ head.0) × (c ≡ Ok head.1)
parts_taken kind (Err why) c size head h = cc
parts_taken kind (Ok a) (Err why) size head h = cc
parts_taken kind (Ok a) (Ok x) (Err why) head h = cc
parts_taken kind (Ok a) (Ok x) (Ok b) head h = let e = ok_is (kind, x) head (Ok (kind, x)) refl h in (ap (λ p. p.0) e, ap (λ p. Ok p.1) e)

head_taken : (word : Read FacetKind) (form : FacetKind → Read ⊤) (c : FacetKind → Read Cardinality) (size : FacetKind → Read ⊤) (head : FacetKind × Cardinality)
    → (word >>= λ k. (form k >>= λ a. (c k >>= λ x. (size k >>= λ b. Ok (k, x))))) ≡ Ok head → (word ≡ Ok head.0) × (c head.0 ≡ Ok head.1)
head_taken (Err why) form c size head h = cc
head_taken (Ok k) form c size head h =
    let p = parts_taken k (form k) (c k) (size k) head h in (ap Ok p.0, subst (λ q. c q ≡ Ok head.1) p.0 p.1)

said_taken : (head : FacetKind × Cardinality) (said : Read Facet) (r : Requirement)
    → (said >>= λ f. Ok (record { facet = f; cardinality = head.1 })) ≡ Ok r → (said ≡ Ok r.facet) × (head.1 ≡ r.cardinality)
said_taken head (Err why) r h = cc
said_taken head (Ok f) r h =
    let q : Requirement = record { facet = f; cardinality = head.1 } in
    let e = ok_is q r (Ok q) refl h in (ap (λ r. Ok r.facet) e, ap (λ r. r.cardinality) e)

facet_taken : (head : Read (FacetKind × Cardinality)) (said : FacetKind → Read Facet) (r : Requirement)
    → (head >>= λ k. (said k.0 >>= λ f. Ok (record { facet = f; cardinality = k.1 }))) ≡ Ok r
    → (k : FacetKind × Cardinality) × (head ≡ Ok k) × (said k.0 ≡ Ok r.facet) × (k.1 ≡ r.cardinality)
facet_taken (Err why) said r h = cc
facet_taken (Ok k) said r h = let p = said_taken k (said k.0) r h in (k, refl, p.0, p.1)

declared_taken : (read : Read Facet) (bad : Bool) (f : Facet) → (read >>= λ g. refuse_if bad cause.UnknownEntity (Ok g)) ≡ Ok f → read ≡ Ok f
declared_taken (Err why) bad f h = cc
declared_taken (Ok g) bad f h = (passed bad cause.UnknownEntity (Ok g) f h).1

-- ---- where it stands

word_stands : (closed : Bool) (said : Option FacetKind) (kind : FacetKind) → word_from closed said ≡ Ok kind → (closed && is_entity_kind kind) ≡ false
word_stands closed None kind h = cc
word_stands closed (Some k) kind h =
    let p = passed (closed && is_entity_kind k) cause.Shape (Ok k) kind h in
    subst (λ q. (closed && is_entity_kind q) ≡ false) (ok_is k kind (Ok k) refl p.1) p.0

cardinality_stands : (side : Side) (kind : FacetKind) (said : Option Cardinality) (c : Cardinality) → allowed_from side kind said ≡ Ok c → is_allowed side kind c ≡ true
cardinality_stands side kind None c h = cc
cardinality_stands side kind (Some x) c h =
    let p = passed (not (is_allowed side kind x)) cause.Cardinality (Ok x) c h in
    subst (λ q. is_allowed side kind q ≡ true) (ok_is x c (Ok x) refl p.1) (is_passed (is_allowed side kind x) p.0)

head_stands : (side : Side) (closed : Bool) (d : Data) (head : FacetKind × Cardinality) → head_of side closed d ≡ Ok head
    → ((closed && is_entity_kind head.0) ≡ false) × (is_allowed side head.0 head.1 ≡ true)
unfolding head_of word_of cardinality_of
head_stands side closed d head h =
    let p = head_taken (word_of closed d) (λ k. form_of (object_of k) d) (λ k. cardinality_of side k d) (λ k. size_of (object_of k) d) head h in
    (word_stands closed (kind_said d) head.0 p.0, cardinality_stands side head.0 (cardinality_said d) head.1 p.1)

-- a requirement has a cardinality that it may have
abbrev pub IsAsAsked : Side → Requirement → Type 0
IsAsAsked side.Applicability r = Unit {0}
IsAsAsked side.Requirements r = may_be_asked r.facet r.cardinality ≡ true

as_asked : (side : Side) (kind : FacetKind) (c : Cardinality) (r : Requirement) → IsOfKind kind r.facet → c ≡ r.cardinality → is_allowed side kind c ≡ true → IsAsAsked side r
unfolding is_allowed
as_asked side.Applicability kind c r is e h = tt
as_asked side.Requirements kind c r is e h = is.1 r.cardinality ∙ ap (may_require kind) (sym e) ∙ h

facet_stands : (s : Schema) (t : Setting) (closed : Bool) (d : Data) (r : Requirement) → facet_of s t closed d ≡ Ok r
    → ((closed && is_entity r.facet) ≡ false) × IsAsAsked t.side r
unfolding facet_of declared_of
facet_stands s t closed d r h =
    let p = facet_taken (head_of t.side closed d) (λ k. declared_of s t.for_model k d) r h in
    let head = head_stands t.side closed d p.0 p.1 in
    let is = value_kind p.0.0 d r.facet (declared_taken (value_of p.0.0 d) (t.for_model && names_unknown s p.0.0 d) r.facet p.2) in
    (ap (λ b. closed && b) is.0 ∙ head.0, as_asked t.side p.0.0 p.0.1 r is p.3 head.1)

pub placed_facet_stands : (s : Schema) (t : Setting) (place : ℕ) (closed : Bool) (d : Data) (r : Requirement) → facet_at s t place closed d ≡ Ok r
    → ((closed && is_entity r.facet) ≡ false) × IsAsAsked t.side r
unfolding facet_at
placed_facet_stands s t place closed d r h = facet_stands s t closed d r (at_place t.spec place (facet_of s t closed d) r h)
