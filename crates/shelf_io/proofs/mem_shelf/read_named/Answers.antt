use Rattle.std.proofs.Common.{set, sym, ap, refl}
use Rattle.std.specs.Str.{chars}
use Rattle.shelf_io.proofs.HeldLemmas.{first_at, read_at_first, not_found, told_of_first}
use Rattle.shelf_io.proofs.mem_shelf.read_named.Goals as goal

pub returns-in-Some-clause-counted : goal.returns-in-Some-clause-counted
returns-in-Some-clause-counted c =
    rw (read_at_first (chars c.args.name.now) c.args.files.now c.in-Some.at c.index-files-at.result c.in-Some.ensures)
    (ap (λ file. set c.args.files.now c.in-Some.at file) c.read_file.ensures.counted)

pub returns-in-Some-clause-answer : goal.returns-in-Some-clause-answer
returns-in-Some-clause-answer c =
    rw (first_at (chars c.args.name.now) c.args.files.now c.in-Some.at c.index-files-at.result c.in-Some.ensures)
    c.read_file.ensures.answer

pub returns-in-Some-clause-bytes : goal.returns-in-Some-clause-bytes
returns-in-Some-clause-bytes c =
    rw (
      told_of_first (chars c.args.name.now) c.args.files.now,
      first_at (chars c.args.name.now) c.args.files.now c.in-Some.at c.index-files-at.result c.in-Some.ensures,
    ) c.read_file.ensures.piece

pub returns-in-Some-clause-full : goal.returns-in-Some-clause-full
returns-in-Some-clause-full c =
    rw (
      told_of_first (chars c.args.name.now) c.args.files.now,
      first_at (chars c.args.name.now) c.args.files.now c.in-Some.at c.index-files-at.result c.in-Some.ensures,
    ) c.read_file.ensures.full

pub returns-in-None-clause-counted : goal.returns-in-None-clause-counted
returns-in-None-clause-counted c = sym (not_found (chars c.args.name.now) c.args.files.now c.in-None.ensures).1

pub returns-in-None-clause-answer : goal.returns-in-None-clause-answer
returns-in-None-clause-answer c = rw (not_found (chars c.args.name.now) c.args.files.now c.in-None.ensures).0 refl
