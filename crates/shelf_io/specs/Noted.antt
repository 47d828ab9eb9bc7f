-- The read that a note tells.
use Rattle.std.specs.Option.{option_map}
use Rattle.std.specs.Str.{chars}
use Rattle.shelf_io.specs.declared.read_note.ReadNote.{ReadNote}
use Rattle.shelf_io.specs.Reads.{Read}

abbrev pub read_of : ReadNote → Read
read_of note = (chars note.name.now, note.from, note.room, option_map (λ bytes. bytes.now) note.bytes)
