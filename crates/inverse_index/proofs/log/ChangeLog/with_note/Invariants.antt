use Rattle.std.proofs.Common.{◌≡◌, take, if◌then◌else◌}
use Rattle.ifc_base.specs.declared.key.Key.{Key}
use Rattle.inverse_index.specs.Index.{has_key}
use Rattle.inverse_index.specs.Log.{last_in}
use Rattle.inverse_index.proofs.log.ChangeLog.with_note.Given as goal

abbrev pub invariant-loop-key : goal.invariant-loop-key
invariant-loop-key l = (k : Key) → last_in l.next k ≡ (if has_key (take l.key-index l.key-items) k then l.revision else last_in l.self k)
