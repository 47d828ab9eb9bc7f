-- Why declarations make no schema (ISO 10303-11, entity declaration).
use Rattle.std.specs.Prelude.{◌+◌, Bool, false, ◌||◌, nat_lt, if◌then◌else◌, List, [], ◌∷◌, length, find, Option, Some, None, is_none, bytes_eq}
use Rattle.std.specs.List.{list_any}
use Rattle.std.specs.Option.{option_or, option_map, option_map_or}
use Rattle.ifc_base.specs.declared.decl.EntityDecl.{EntityDecl}
use Rattle.ifc_base.specs.declared.decl.TypeDecl.{TypeDecl}
use Rattle.schema_table.specs.declared.fault.SchemaFault.{SchemaFault}
use Rattle.schema_table.specs.declared.fault.SchemaFault.TheVariants.{Twice, UnknownSuper, Cycle, TooMany}
use Rattle.schema_table.specs.Schema.{Schema, declaration, supertype, upwards}

-- more than 5,000 entities and types together, or more than 200 own attributes of one entity
abbrev pub are_too_many : Schema → List TypeDecl → Bool
are_too_many s types = nat_lt 5000 (length s + length types) || list_any (λ d. nat_lt 200 (length d.own)) s

-- the supertype that it names isn't declared, before it or behind it
abbrev pub has_unknown_super : Schema → EntityDecl → Bool
has_unknown_super s d = option_map_or (λ parent. is_none (declaration s parent)) d.parent false

-- of these declarations, which come after the earlier ones: the first whose name stood before, or whose supertype isn't declared
abbrev pub entity_fault : Schema → List EntityDecl → List EntityDecl → Option SchemaFault
entity_fault s earlier [] = None
entity_fault s earlier (d ∷ ds) =
    option_or (if list_any (λ e. bytes_eq e.name d.name) earlier then Some (Twice d.name) else None)
    (option_or (if has_unknown_super s d then Some (UnknownSuper d.name) else None) (entity_fault s (d ∷ earlier) ds))

-- the entity is among its own supertypes
abbrev pub is_own_ancestor : Schema → EntityDecl → Bool
is_own_ancestor s d = list_any (λ e. bytes_eq e.name d.name) (upwards s (length s) (supertype s d))

-- the fault of the first entity that has one, in declared order; else that of the first entity that is its own ancestor
abbrev pub declared_fault : Schema → Option SchemaFault
declared_fault s = option_or (entity_fault s [] s) (option_map (λ d. Cycle d.name) (find (is_own_ancestor s) s))

-- The fault of declarations, if they have one: they are too many; else the first entity's, in declared order; else the first entity
-- that is its own ancestor.
unfoldable pub schema_fault : Schema → List TypeDecl → Option SchemaFault
schema_fault s types =
    option_or (if are_too_many s types then Some TooMany else None)
    (option_or (entity_fault s [] s) (option_map (λ d. Cycle d.name) (find (is_own_ancestor s) s)))
