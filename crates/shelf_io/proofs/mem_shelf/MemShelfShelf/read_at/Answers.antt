use Rattle.std.proofs.Common.{arith, ◌≡◌, ap, ◌∙◌, map, false}
use Rattle.std.specs.Prelude.{Some}
use Rattle.std.specs.Str.{chars}
use Rattle.std.specs.Vec.{with_items}
use Rattle.std.proofs.lemmas.Grind.{common_steps}
use Rattle.shelf_io.specs.Held.{entry_of, read_first, reads_well}
use Rattle.shelf_io.proofs.HeldLemmas.{same_entries, missing_fails, steady_misses, steady_stays}
use Rattle.shelf_io.proofs.mem_shelf.MemShelfShelf.read_at.Goals as goal

pub returns-then-is_err-clause-held : goal.returns-then-is_err-clause-held
returns-then-is_err-clause-held c =
    let counted : (with_items c.args.self.now.files c.read_named-answer.new.files).items ≡ read_first (chars c.args.name.now) c.args.self.now.files.items = grind (arith, common_steps) in
    ap Some (ap (map entry_of) counted ∙ same_entries (chars c.args.name.now) c.args.self.now.files.items)

pub returns-then-is_err-clause-steady : goal.returns-then-is_err-clause-steady
returns-then-is_err-clause-steady c other steady =
    let counted : (with_items c.args.self.now.files c.read_named-answer.new.files).items ≡ read_first (chars c.args.name.now) c.args.self.now.files.items = grind (arith, common_steps) in
    rw counted (steady_stays (chars c.args.name.now) other c.args.self.now.files.items steady)

pub returns-then-is_err-clause-sure : goal.returns-then-is_err-clause-sure
returns-then-is_err-clause-sure c steady failed =
    let fails : reads_well (chars c.args.name.now) c.args.self.now.files.items ≡ false = grind (arith, common_steps) in
    steady_misses (chars c.args.name.now) c.args.self.now.files.items steady fails

pub returns-else-is_err-clause-held : goal.returns-else-is_err-clause-held
returns-else-is_err-clause-held c =
    let counted : (with_items c.args.self.now.files c.read_named-answer.new.files).items ≡ read_first (chars c.args.name.now) c.args.self.now.files.items = grind (arith, common_steps) in
    ap Some (ap (map entry_of) counted ∙ same_entries (chars c.args.name.now) c.args.self.now.files.items)

pub returns-else-is_err-clause-missing : goal.returns-else-is_err-clause-missing
returns-else-is_err-clause-missing c missing =
    let fails = missing_fails (chars c.args.name.now) c.args.self.now.files.items missing in grind (arith, common_steps)

pub returns-else-is_err-clause-steady : goal.returns-else-is_err-clause-steady
returns-else-is_err-clause-steady c other steady =
    let counted : (with_items c.args.self.now.files c.read_named-answer.new.files).items ≡ read_first (chars c.args.name.now) c.args.self.now.files.items = grind (arith, common_steps) in
    rw counted (steady_stays (chars c.args.name.now) other c.args.self.now.files.items steady)
