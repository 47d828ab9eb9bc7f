-- Under which number a key stands in a tree. The numbers go in blocks of 1,024, one for each 32 ids: first the 32 keys of the ids
-- themselves, and from the middle on 16 numbers for each id, of which its roles take ten. So keys of near ids stand in few nodes.
use Rattle.std.specs.Prelude.{ℕ, ◌+◌, ◌*◌, ◌/◌, ◌%◌}
use Rattle.ifc_base.specs.declared.key.Key.{Key}
use Rattle.ifc_base.specs.declared.key.Key.TheVariants.{Inst, Refs}
use Rattle.ifc_base.specs.KeyOrder.{key_id, role_rank}

-- the place within the block, from 0
abbrev pub place_in_block : Key → ℕ
place_in_block (Inst id) = id % 32
place_in_block (Refs id role) = 512 + id % 32 * 16 + role_rank role

abbrev pub key_number : Key → ℕ
key_number k = key_id k / 32 * 1024 + place_in_block k
