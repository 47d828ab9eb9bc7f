-- The program of a pattern: its single-character parts in order, each as often as the repeats around it
-- say, and the steps that lead the ways through it.
use Rattle.std.specs.Prelude.{ℕ, zero, suc, ◌+◌, ◌-◌, ◌==◌, nat_lt, Option, Some, None, Bool, true, false, ◌&&◌, ◌||◌}
use Rattle.std.specs.Prelude.{List, [], ◌∷◌, ◌++◌, length, map, fold, take, if◌then◌else◌}
use Rattle.pattern_tree.specs.declared.tree.Times.{Times}
use Rattle.pattern_tree.specs.declared.tree.Tree.{Tree}
use Rattle.pattern_tree.specs.declared.tree.Tree.TheOpen.{Tree-F}
use Rattle.pattern_tree.specs.declared.program.Op.{Op}
use Rattle.pattern_tree.specs.declared.program.Op.TheVariants as op
use Rattle.pattern_tree.specs.declared.program.Part.{Part}
use Rattle.pattern_tree.specs.declared.program.Sides.{Sides}
use Rattle.pattern_tree.specs.Trees.{Level, fold_tree}

-- one character of the set at this place
abbrev pub single : ℕ → Part
single at = record { ops = op.One at ∷ []; empty = false }

-- no steps, for the empty text
abbrev pub nothing : Part
nothing = record { ops = []; empty = true }

-- one behind the other
abbrev pub beside : Part → Part → Part
beside p q = record { ops = p.ops ++ q.ops; empty = p.empty && q.empty }

-- all parts one behind the other
abbrev pub joined : List Part → Part
joined parts = fold beside nothing parts

-- one more side: its steps, or a note that there is one without steps
abbrev pub gathered : Sides → Part → Sides
gathered sides side =
    if length side.ops == 0 then record sides { blank = true }
    else record {
      ops = sides.ops ++ side.ops ++ op.Next ∷ [];
      empty = sides.empty || side.empty;
      blank = sides.blank;
      alone = length sides.ops == 0;
    }

-- before the first side
abbrev pub no_sides : Sides
no_sides = record { ops = []; empty = false; blank = false; alone = false }

-- all sides
abbrev pub all_gathered : List Part → Sides
all_gathered parts = fold gathered no_sides parts

-- an alternation of these sides
abbrev pub forked : Sides → Part
forked sides = record {
  ops = op.Fork ∷ sides.ops ++ (if sides.blank then op.Next ∷ [] else []) ++ op.Join ∷ [];
  empty = sides.empty || sides.blank;
}

-- all steps but the last
abbrev pub but_last : List Op → List Op
but_last ops = take (length ops - 1) ops

-- the part, or the empty text
abbrev pub optional : Part → Part
optional part =
    if part.empty then part else record { ops = op.Fork ∷ part.ops ++ op.Next ∷ op.Next ∷ op.Join ∷ []; empty = true }

-- the side of these steps alone, and the empty text where a side without steps stands beside it
abbrev pub only : Sides → Part
only sides =
    (let side : Part = record { ops = but_last sides.ops; empty = sides.empty } in if sides.blank then optional side else side)

-- one of the sides: no steps where no side has any, and no fork where one side alone has some
abbrev pub alternated : Sides → Part
alternated sides =
    if sides.alone then only sides
    else if sides.blank && length sides.ops == 0 then nothing
    else forked sides

-- one of the parts
abbrev pub chosen : List Part → Part
chosen parts = alternated (all_gathered parts)

-- so many copies
abbrev pub power : ℕ → List Op → List Op
power zero ops = []
power (suc n) ops = ops ++ power n ops

-- the step begins a repeat without end that ends so many steps further on
abbrev pub spans : Op → ℕ → Bool
spans (op.Enter far) n = far == n
spans _ n = false

-- all steps are one repeat without end
abbrev pub is_loop : List Op → Bool
is_loop [] = false
is_loop (first ∷ ops) = spans first (length ops)

-- the part again and again; a part that is such a repeat itself only ends otherwise
abbrev pub endless : Part → Bool → Part
endless part empty = record {
  ops =
      if is_loop part.ops then but_last part.ops ++ op.Leave empty ∷ []
      else op.Enter (length part.ops + 1) ∷ part.ops ++ op.Leave empty ∷ [];
  empty = empty;
}

-- so many copies, and up to so many further ones
abbrev pub up_to : Part → ℕ → ℕ → Part
up_to part least more = record { ops = power least part.ops ++ power more (optional part).ops; empty = part.empty || least == 0 }

-- so many copies, and behind them the part once or more
abbrev pub from : Part → ℕ → Part
from part before = record { ops = power before part.ops ++ (endless part part.empty).ops; empty = part.empty }

-- a part in a number from the least to the greatest, if there is one; a part without steps stays without
abbrev pub repeated_most : Part → ℕ → Option ℕ → Part
repeated_most part least (Some most) =
    if nat_lt most least then forked no_sides else if length part.ops == 0 then part else up_to part least (most - least)
repeated_most part least None =
    if length part.ops == 0 then part else if least == 0 then endless part true else from part (least - 1)

-- a part in a number that the repeat permits
abbrev pub repeated : Part → Times → Part
repeated part times = repeated_most part times.least times.most

-- the programs of patterns one after another, each counted on from the sets before it
abbrev pub in_turn : List (ℕ → Part × ℕ) → ℕ → List Part × ℕ
in_turn [] n = ([], n)
in_turn (program ∷ programs) n = (let p = program n in let rest = in_turn programs p.1 in (p.0 ∷ rest.0, rest.1))

-- the parts one behind the other, and one of them, with the number of sets up to their end
abbrev pub in_sequence : List Part × ℕ → Part × ℕ
in_sequence parts = (joined parts.0, parts.1)

abbrev pub in_choice : List Part × ℕ → Part × ℕ
in_choice parts = (chosen parts.0, parts.1)

-- the program at one level
abbrev pub program_at : Level (ℕ → Part × ℕ) → ℕ → Part × ℕ
program_at (Tree-F.Set set) n = (single n, n + 1)
program_at (Tree-F.Sequence parts) n = in_sequence (in_turn parts n)
program_at (Tree-F.Choice sides) n = in_choice (in_turn sides n)
program_at (Tree-F.Repeat part times) n = (repeated (part n).0 times, (part n).1)

-- the program of a pattern, where so many sets stand before it, and the number of sets up to its end
abbrev pub program : Tree → ℕ → Part × ℕ
program = fold_tree program_at

-- ditto of patterns one after another
abbrev pub programs : List Tree → ℕ → List Part × ℕ
programs trees = in_turn (map program trees)
