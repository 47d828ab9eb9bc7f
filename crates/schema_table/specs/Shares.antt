-- The attributes of entities, in lists that entities share: an entity's are the first so many of a list.
use Rattle.std.specs.Prelude.{◌≡◌, ℕ, ◌<◌, ◌≤◌, ◌==◌, Bool, true, ◌||◌, ◌&&◌, List, [], map, flat_map, length, reverse, take, slice_get, slice_set, slice_index_or, Option, Some, bytes_eq}
use Rattle.std.specs.Option.{option_map_or}
use Rattle.std.specs.List.{list_any}
use Rattle.ifc_base.specs.declared.decl.EntityDecl.{EntityDecl}
use Rattle.schema_table.specs.declared.slot.AttrSlot.{AttrSlot}
use Rattle.schema_table.specs.declared.shares.Share.{Share}
use Rattle.schema_table.specs.Schema.{Schema, redeclares, upwards}
use Rattle.schema_table.specs.Order.{has_number}

abbrev pub list_at : List (List AttrSlot) → ℕ → List AttrSlot
list_at lists k = slice_index_or lists k []

-- the first so many slots of the list
abbrev pub part : List (List AttrSlot) → Share → List AttrSlot
part lists share = take share.len (list_at lists share.list)

-- The list is there, and as long.
abbrev pub IsPart : List (List AttrSlot) → Share → Type 0
IsPart lists share = (share.list < length lists) × (share.len ≤ length (list_at lists share.list))

-- All that is a part of the old lists is one of the new ones, with the same slots.
abbrev pub KeepsParts : List (List AttrSlot) → List (List AttrSlot) → Type 0
KeepsParts old new = (share : Share) → IsPart old share → IsPart new share × (part new share ≡ part old share)

-- the attribute of this name, of an entity that stands with its supertypes in a list
abbrev pub slot_of : List EntityDecl → List ℕ → AttrSlot
slot_of ds attr = record { name = attr; derived = redeclares ds attr }

-- the attributes of an entity that stands with its supertypes in a list, the topmost last
abbrev pub slots_of : List EntityDecl → List AttrSlot
slots_of ds = map (slot_of ds) (flat_map (λ d. d.own) (reverse ds))

-- an inherited attribute where these names are redeclared
abbrev pub redeclared : List (List ℕ) → AttrSlot → AttrSlot
redeclared names slot = record { name = slot.name; derived = slot.derived || list_any (bytes_eq slot.name) names }

-- An entity can go on with its supertype's list: it redeclares nothing, and adds nothing or the supertype's attributes end the list.
abbrev pub may_share : List (List AttrSlot) → Share → EntityDecl → Bool
may_share lists base d = length d.derived == 0 && (length d.own == 0 || base.len == length (list_at lists base.list))

-- With these lists, an entity's attributes begin with this share: it has its supertype's, and ends its list where attributes are to come.
pub record Begins (old : List (List AttrSlot)) (base : Share) (d : EntityDecl) (new : List (List AttrSlot)) (share : Share) : Type 0 where
  pub there : IsPart new share
  pub inherited : part new share ≡ map (redeclared d.derived) (part old base)
  pub at_end : (length d.own == 0 || share.len == length (list_at new share.list)) ≡ true

-- no attributes, of the first list
abbrev pub nothing : Share
nothing = record { list = 0; len = 0 }

-- the share of an entity, where a number is given
abbrev pub share_at : List Share → Option ℕ → Share
share_at shares o = option_map_or (λ k. slice_index_or shares k nothing) o nothing

-- A share of these slots was set at this number.
pub record HasSet (lists : List (List AttrSlot)) (slots : List AttrSlot) (number : ℕ) (old new : List Share) : Type 0 where
  pub share : Share
  pub there : IsPart lists share
  pub has : part lists share ≡ slots
  pub is_set : new ≡ slice_set old number share

-- The share of each of these entities has its attributes.
abbrev pub AreShares : Schema → List (List AttrSlot) → List Share → List ℕ → Type 0
AreShares s lists shares done =
    (x : ℕ) → x < length s → has_number done x ≡ true → IsPart lists (share_at shares (Some x)) × (part lists (share_at shares (Some x)) ≡ slots_of (upwards s (length s) (slice_get s x)))

-- The share of each entity has its attributes.
abbrev pub HaveAttributes : Schema → List (List AttrSlot) → List Share → Type 0
HaveAttributes s lists shares = (x : ℕ) → x < length s → part lists (share_at shares (Some x)) ≡ slots_of (upwards s (length s) (slice_get s x))
