-- What a table keeps of a schema.
use Rattle.std.specs.Prelude.{◌≡◌, ℕ, List, [], Option, None, String}
use Rattle.indexmap.specs.IndexMap.{IndexMap}
use Rattle.schema_table.specs.declared.slot.AttrSlot.{AttrSlot}
use Rattle.schema_table.specs.declared.shares.Share.{Share}
use Rattle.schema_table.specs.Schema.{Schema}
use Rattle.schema_table.specs.Declarations.{schema_fault}
use Rattle.schema_table.specs.Climbing.{parents_of}
use Rattle.schema_table.specs.Index.{IsIndex}
use Rattle.schema_table.specs.Shares.{HaveAttributes}

-- The schema has no fault; the index, the parents and the attributes are its own.
pub record IsLookup {Y S : Type 0} (s : Schema) (index : IndexMap (String Y) ℕ S) (parents : List (Option ℕ)) (lists : List (List AttrSlot)) (shares : List Share) : Type 0 where
  pub faultless : schema_fault s [] ≡ None
  pub index_is : IsIndex s index
  pub parents_are : parents ≡ parents_of s
  pub attributes_are : HaveAttributes s lists shares
