-- no file before this one has the name
use Rattle.std.proofs.Common.{◌≡◌, false, take}
use Rattle.std.specs.List.{list_any}
use Rattle.std.specs.Str.{chars}
use Rattle.shelf_io.specs.Held.{has_name}
use Rattle.shelf_io.proofs.mem_shelf.place.Given as goal

abbrev pub invariant-loop-at : goal.invariant-loop-at
invariant-loop-at l = list_any (has_name (chars l.name)) (take l.at l.files) ≡ false
