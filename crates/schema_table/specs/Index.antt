-- The numbers of entities by their names in UTF-8.
use Rattle.std.specs.Prelude.{◌≡◌, ℕ, false, List, Option, Some, None, is_none, String, if◌then◌else◌, position, bytes_eq, encode_utf8_all}
use Rattle.std.specs.Option.{option_or, option_map_or, option_and_then}
use Rattle.indexmap.specs.IndexMap.{IndexMap, get_by_text}
use Rattle.ifc_base.specs.declared.decl.EntityDecl.{EntityDecl}
use Rattle.schema_table.specs.declared.fault.SchemaFault.{SchemaFault}
use Rattle.schema_table.specs.declared.fault.SchemaFault.TheVariants.{Twice, UnknownSuper}
use Rattle.schema_table.specs.Schema.{Schema}
use Rattle.schema_table.specs.Climbing.{is_number}

-- A text leads to the first entity whose name it is.
abbrev pub IsIndex : {Y S : Type 0} → Schema → IndexMap (String Y) ℕ S → Type 0
IsIndex s m = (text : List ℕ) → get_by_text m text ≡ position (λ d. bytes_eq text (encode_utf8_all d.name)) s

-- The new one leads where the old one leads, and from this text to this number if the old one has none for it.
abbrev pub LeadsBesides : {Y S : Type 0} → IndexMap (String Y) ℕ S → IndexMap (String Y) ℕ S → List ℕ → ℕ → Type 0
LeadsBesides old new name number = (text : List ℕ) → get_by_text new text ≡ option_or (get_by_text old text) (if bytes_eq text name then Some number else None)

-- the number of an entity's supertype, by the index
abbrev pub indexed_parent : {Y S : Type 0} → IndexMap (String Y) ℕ S → EntityDecl → Option ℕ
indexed_parent m d = option_and_then (λ parent. get_by_text m (encode_utf8_all parent)) d.parent

-- The fault of an entity's names, by the index: another entity of its name has an earlier number, or its supertype has none.
abbrev pub index_fault : {Y S : Type 0} → IndexMap (String Y) ℕ S → ℕ → EntityDecl → Option SchemaFault
index_fault m number d =
    option_or (if is_number (get_by_text m (encode_utf8_all d.name)) number then None else Some (Twice d.name))
    (if option_map_or (λ parent. is_none (get_by_text m (encode_utf8_all parent))) d.parent false then Some (UnknownSuper d.name) else None)
