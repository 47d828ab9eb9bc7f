use Rattle.std.proofs.Common.{◌≡◌, ◌∙◌, ap, sym, refl, subst, List, ℕ, Result, Ok, Err, codes}
use Rattle.std.specs.Str.{chars}
use Rattle.ifc_base.specs.declared.memory.Refusal.{Refusal}
use Rattle.ifc_base.specs.declared.memory.Refusal.TheVariants.{Fault}
use Rattle.schema_table.specs.Schema.{Schema}
use Rattle.audit_model.specs.declared.specification.Specification.{Specification}
use Rattle.ids_reader.specs.declared.fault.IdsFault.{IdsFault}
use Rattle.ids_reader.specs.Documents.{ids_reading}
use Rattle.ids_reader.specs.Reads.{Answers}
use Rattle.ids_live.specs.declared.refused.Refused.TheVariants.{InSpecs}
use Rattle.ids_live.specs.Forms.{refused_as, specs_of}
use Rattle.ids_live.proofs.load.specifications_of.Goals as goal

plain : chars (codes "IFC4") ≡ codes "IFC4"
unfolding chars
plain = refl

read_as : (s : Schema) (name bytes : List ℕ) (r : Result (List Specification) IdsFault) → name ≡ chars (codes "IFC4") → ids_reading s name bytes ≡ r → specs_of s bytes ≡ refused_as InSpecs r
unfolding specs_of
read_as s name bytes r same is = ap (λ (n : List ℕ). refused_as InSpecs (ids_reading s n bytes)) (sym (same ∙ plain)) ∙ ap (λ (x : Result (List Specification) IdsFault). refused_as InSpecs x) is

pub returns-in-Ok-clause-read : goal.returns-in-Ok-clause-read
returns-in-Ok-clause-read c = read_as c.args.schema.now c.in_ok-schema_id.schema_id c.args.text.now (Ok c.in-Ok.specs) c.in_ok-schema_id.ensures c.in-Ok.ensures.exact

-- the fault that a refusal holds is the one that is read
told : (r : Result (List Specification) IdsFault) (e : Refusal IdsFault) (f : IdsFault) → e ≡ Fault f → Answers r (Err e) → r ≡ Err f
told r e f is a = subst (λ (x : Refusal IdsFault). Answers r (Err x)) is a

pub returns-in-Err-Fault-clause-read : goal.returns-in-Err-Fault-clause-read
returns-in-Err-Fault-clause-read c =
    let fault = told (ids_reading c.args.schema.now c.in_ok-schema_id.schema_id c.args.text.now) c.in-Err-Fault.field-0 c.in-Err-Fault.fault c.in-Err-Fault.field-0-is c.in-Err-Fault.ensures.exact in
    read_as c.args.schema.now c.in_ok-schema_id.schema_id c.args.text.now (Err c.in-Err-Fault.fault) c.in_ok-schema_id.ensures fault
