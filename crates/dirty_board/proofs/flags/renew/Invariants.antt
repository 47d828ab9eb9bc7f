use Rattle.std.proofs.Common.{◌≡◌, ℕ, ◌/◌, ◌<◌, ◌≤◌, ◌-◌, true, false, length, vec_capacity}
use Rattle.std.specs.List.{slice_index_or}
use Rattle.dirty_board.proofs.flags.renew.Given as goal

abbrev pub invariant-loop-block : goal.invariant-loop-block
invariant-loop-block l = record {
  done : (i : ℕ) → slice_index_or l.flags i false ≡ true → i / 256 < l.block → slice_index_or l.blocks.items (i / 256) false ≡ true;
  rest : (b : ℕ) → l.block ≤ b → slice_index_or l.blocks.items b false ≡ slice_index_or l.fn.blocks.items b false;
  same : length l.blocks.items ≡ length l.fn.blocks.items;
  room : vec_capacity l.blocks ≡ vec_capacity l.fn.blocks;
}

abbrev pub decreases-loop-block : goal.decreases-loop-block
decreases-loop-block l = length l.blocks.items - l.block
