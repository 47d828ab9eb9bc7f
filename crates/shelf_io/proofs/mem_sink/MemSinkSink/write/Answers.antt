use Rattle.std.proofs.Common.{rules, ◌≡◌, ◌==◌, true}
use Rattle.std.specs.List.{list_any}
use Rattle.shelf_io.specs.Causes.{next_count}
use Rattle.shelf_io.proofs.SinkLemmas.{not_listed}
use Rattle.shelf_io.proofs.mem_sink.MemSinkSink.write.Goals as goal
use Rattle.shelf_io.proofs.mem_sink.MemSinkSink.write.Goals.{then-fails-via-then-fails, then-fails-via-else-fails+then-not-is_empty, then-count-eq0, else-count-eq0}

pub returns-then-fails-clause-sure : goal.returns-then-fails-clause-sure
returns-then-fails-clause-sure c more sure = elim c.then-fails.branch [
  | then-fails-via-then-fails w ↦
      let behind = not_listed c.args.self.now.failing (next_count c.args.self.now.calls) sure.calls in
      let told : list_any (λ n. n == next_count c.args.self.now.calls) c.args.self.now.failing ≡ true = search rules in
      cc
  | then-fails-via-else-fails+then-not-is_empty w ↦ elim w.if-count-eq0.branch [
    | then-count-eq0 w' ↦ let room = sure.room in search rules
    | else-count-eq0 w' ↦ search rules
  ]
]
