-- What an attribute facet says of attributes that stand beside their values (IDS 1.0, attribute facet).
use Rattle.std.specs.Prelude.{Bool, ◌&&◌, List}
use Rattle.std.specs.List.{list_any}
use Rattle.ifc_base.specs.declared.value.Value.{Value}
use Rattle.schema_table.specs.declared.slot.AttrSlot.{AttrSlot}
use Rattle.schema_table.specs.Values.{is_set}
use Rattle.restrictions.specs.Admitting.{admits_text}
use Rattle.audit_model.specs.declared.facet.AttributeFacet.{AttributeFacet}
use Rattle.audit_model.specs.declared.verdict.Weighed.{Weighed}
use Rattle.audit_model.specs.Asked.{admits_if_asked}

-- the attribute's name is admitted, and its value is set
abbrev pub is_asked_slot : AttributeFacet → AttrSlot × Value → Bool
is_asked_slot f p = admits_text f.name p.0.name && is_set p.1

-- one of the attributes is so and has an admitted value, and one is so
abbrev pub slots_weighed : AttributeFacet → List (AttrSlot × Value) → Weighed
slots_weighed f ps = record {
  holds = list_any (λ p. is_asked_slot f p && admits_if_asked f.value p.1) ps;
  subject = list_any (is_asked_slot f) ps;
}
