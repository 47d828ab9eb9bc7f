use Rattle.std.proofs.Common.{◌∙◌, ap, sym, false}
use Rattle.std.specs.List.{slice_get}
use Rattle.std.specs.Option.{option_map_or}
use Rattle.ifc_base.specs.declared.decl.EntityDecl.{EntityDecl}
use Rattle.schema_table.specs.Schema.{Schema}
use Rattle.schema_table.proofs.Lookups.{fault_unknown, fault_abstract, fault_params}
use Rattle.schema_table.proofs.lookup.Lookup.misfit.Goals as goal

pub returns-in-None : goal.returns-in-None
returns-in-None c = rw c.in_ok-name-in-None.ensures (fault_unknown c.args.self.now c.args.instance.now (sym c.in-None.ensures))

pub returns-then-is_abstract : goal.returns-then-is_abstract
returns-then-is_abstract c =
    let abstract = ap (λ (s : Schema). option_map_or (λ (d : EntityDecl). d.is_abstract) (slice_get s c.in-Some.number) false) (sym c.self.view_is ∙ sym c.as_slice.ensures) ∙ sym c.if-is_abstract.ensures in
    rw c.in_ok-name.ensures (fault_abstract c.args.self.now c.args.instance.now c.in-Some.number (sym c.in-Some.ensures) abstract)

pub returns : goal.returns
returns c =
    let concrete = ap (λ (s : Schema). option_map_or (λ (d : EntityDecl). d.is_abstract) (slice_get s c.in-Some.number) false) (sym c.self.view_is ∙ sym c.as_slice.ensures) ∙ sym c.if-is_abstract.ensures in
    c.fault_of_params.ensures ∙ rw c.as_slice-2.ensures (fault_params c.args.self.now c.args.instance.now c.in-Some.number c.slots-slots.result.now (sym c.in-Some.ensures) concrete c.slots-slots.ensures)
