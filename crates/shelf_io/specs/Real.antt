-- What is said of the shelf and the sink of the system: how often they have failed and what
-- the shelf answered, and nothing of what files hold.
use Rattle.std.specs.Prelude.{ℕ, List}
use Rattle.shelf_io.specs.declared.real.FileShelf.{FileShelf}
use Rattle.shelf_io.specs.declared.real.OutSink.{OutSink}
use Rattle.shelf_io.specs.Reads.{Read}

-- how often the shelf has failed
abbrev pub file_faults : FileShelf → ℕ
file_faults shelf = shelf.faults

-- what the shelf was asked for and what it answered, the newest read first
abbrev pub file_reads : FileShelf → List Read
file_reads shelf = shelf.log.reads

-- how often the sink has failed
abbrev pub out_faults : OutSink → ℕ
out_faults sink = sink.faults
