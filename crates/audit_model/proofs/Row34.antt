-- Edits that don't fit the schema, or name no attribute of it, are refused.
use Rattle.std.proofs.Common.{◌≡◌, ℕ, List, [], ◌∷◌, Option, Some, refl, codes, pos}
use Rattle.ifc_base.specs.declared.value.Instance.{Instance}
use Rattle.ifc_base.specs.declared.value.Value.{Value}
use Rattle.ifc_base.specs.declared.value.ValueNode.TheVariants as node
use Rattle.ifc_base.specs.Tree.{text_value}
use Rattle.schema_table.specs.declared.fault.InstanceFault.TheVariants.{UnknownEntity, AbstractEntity, ParamCount, MisplacedDerived}
use Rattle.schema_table.specs.Schema.{attributes, place_of}
use Rattle.schema_table.specs.Faults.{instance_fault}
use Rattle.audit_model.specs.declared.commit.Edit.{Edit}
use Rattle.audit_model.specs.declared.commit.Edit.TheVariants.{Add, Set}
use Rattle.audit_model.specs.declared.commit.EditFault.TheVariants.{IdTaken, NoAttribute, Schema}
use Rattle.audit_model.specs.declared.commit.CommitRefusal.{CommitRefusal}
use Rattle.audit_model.specs.declared.commit.CommitRefusal.TheVariants as refusal
use Rattle.audit_model.specs.Judging.{judge}
use Rattle.audit_model.proofs.Rows.{declared_entities, absent, enumeration_value}

abbrev wall : ℕ → Instance
wall id = record { id = id; entity = codes "IFCWALL"; params = text_value (codes "a") ∷ absent ∷ text_value (codes "W01") ∷ absent ∷ absent ∷ absent ∷ absent ∷ absent ∷ absent ∷ [] }

abbrev group : List Value → Instance
group params = record { id = 20; entity = codes "IFCGROUP"; params = params }

abbrev text : Value
text = text_value (codes "g")

abbrev judged : List Edit → Option CommitRefusal
judged edits = judge declared_entities (record { steps = 100; revisions = 10; instances = 10 }) 0 (λ k. 0) 0 (wall 10 ∷ wall 11 ∷ []) edits

too_few : judged (Add (group (text ∷ [])) ∷ []) ≡ Some (refusal.Edit 1 (Schema 20 (ParamCount 1 5)))
unfolding judge instance_fault attributes
too_few = refl

abstract_entity : judged (Add (record { id = 20; entity = codes "IFCROOT"; params = text ∷ absent ∷ absent ∷ absent ∷ [] }) ∷ []) ≡ Some (refusal.Edit 1 (Schema 20 (AbstractEntity (codes "IFCROOT"))))
unfolding judge instance_fault attributes
abstract_entity = refl

unknown_entity : judged (Add (record { id = 20; entity = codes "IFCX"; params = [] }) ∷ []) ≡ Some (refusal.Edit 1 (Schema 20 (UnknownEntity (codes "IFCX"))))
unfolding judge instance_fault attributes
unknown_entity = refl

-- the unit's dimensions are derived, and no number may stand for them
misplaced : judged (Add (record { id = 20; entity = codes "IFCSIUNIT"; params = record { node = node.Int (pos 1) } ∷ enumeration_value (codes "LENGTHUNIT") ∷ absent ∷ enumeration_value (codes "METRE") ∷ [] }) ∷ []) ≡ Some (refusal.Edit 1 (Schema 20 (MisplacedDerived 1)))
unfolding judge instance_fault attributes
misplaced = refl

taken : judged (Add (record { id = 10; entity = codes "IFCGROUP"; params = text ∷ absent ∷ absent ∷ absent ∷ absent ∷ [] }) ∷ []) ≡ Some (refusal.Edit 1 (IdTaken 10))
unfolding judge instance_fault attributes
taken = refl

no_colour : judged (Add (group (text ∷ absent ∷ absent ∷ absent ∷ absent ∷ [])) ∷ Set 10 (codes "Name") (text_value (codes "X")) ∷ Set 10 (codes "Colour") (text_value (codes "red")) ∷ []) ≡ Some (refusal.Edit 3 (NoAttribute 10 (codes "Colour")))
unfolding judge instance_fault attributes place_of
no_colour = refl
