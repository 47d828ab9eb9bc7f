use Rattle.std.proofs.Common.{ℕ, List, subst, sym, arith}
use Rattle.schema_table.specs.Index.{LeadsBesides}
use Rattle.schema_table.proofs.Indexing.{index_more}
use Rattle.schema_table.proofs.index.index_of.Goals as goal

pub loop-number-preserved : goal.loop-number-preserved
loop-number-preserved c =
    let more = subst (λ (t : List ℕ). LeadsBesides c.loop-number.index c.note_number.new.index t c.loop-number.number) c.as_str.ensures.bytes c.in_ok-note_number.ensures in
    index_more c.args.entities.now c.loop-number.number c.index-entities-number.result c.loop-number.index c.note_number.new.index (omega arith) (sym c.index-entities-number.is) c.loop-number.invariant more
