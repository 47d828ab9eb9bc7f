use Rattle.std.proofs.Common.{◌-◌, vec_len}
use Rattle.std.specs.Str.{chars}
use Rattle.shelf_io.proofs.Progress.{HasRead}
use Rattle.shelf_io.proofs.whole.read_by.Given as goal

abbrev pub invariant-loop-bytes : goal.invariant-loop-bytes
invariant-loop-bytes g l =
    HasRead (g.S.Shelf.held l.fn.shelf) (g.S.Shelf.held l.shelf) (g.S.Shelf.reads l.fn.shelf) (g.S.Shelf.reads l.shelf) (chars l.name) l.bytes.items l.most
    (g.S.Shelf.faults l.fn.shelf) (g.S.Shelf.faults l.shelf) (g.S.Shelf.steady l.fn.shelf) (g.S.Shelf.steady l.shelf)

abbrev pub decreases-loop-bytes : goal.decreases-loop-bytes
decreases-loop-bytes g l = l.most - vec_len l.bytes
