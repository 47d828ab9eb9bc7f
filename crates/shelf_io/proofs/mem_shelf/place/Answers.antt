use Rattle.std.proofs.Common.{◌≡◌, false, get_or}
use Rattle.std.specs.Bool.{one_answer}
use Rattle.std.specs.Str.{chars}
use Rattle.std.proofs.lemmas.Slice.Eq.{bytes_eq-Decides}
use Rattle.shelf_io.specs.Held.{has_name}
use Rattle.shelf_io.proofs.HeldLemmas.{none_more}
use Rattle.shelf_io.proofs.mem_shelf.place.Goals as goal

pub loop-at-preserved : goal.loop-at-preserved
loop-at-preserved c =
    let other : has_name (chars c.args.name.now) (get_or c.args.files.now c.loop-at.at c.index-files-at.result) ≡ false
    = one_answer _ false (bytes_eq-Decides _ _) c.if-is.ensures in
    none_more (has_name (chars c.args.name.now)) c.args.files.now c.loop-at.at c.index-files-at.result c.loop-at-test.true c.loop-at.invariant other
