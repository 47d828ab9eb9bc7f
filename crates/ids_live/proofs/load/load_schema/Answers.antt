use Rattle.std.proofs.lemmas.Result.{err_from_is_err_and}
use Rattle.ids_live.specs.Forms.{schema_read}
use Rattle.ids_live.specs.Inputs.{limit}
use Rattle.ids_live.specs.Reading.{IsInput}
use Rattle.ids_live.proofs.Arriving.{outside_reads}
use Rattle.ids_live.proofs.load.load_schema.Goals as goal

pub returns-in_err-bytes-clause-reads : goal.returns-in_err-bytes-clause-reads
returns-in_err-bytes-clause-reads g c =
    let p = err_from_is_err_and c.from_residual.result c.from_residual.ensures.1 in
    rw (p.1, p.2) (outside_reads (λ schema. schema) (IsInput (g.S.Shelf.held c.args.shelf.now) (g.S.Shelf.reads c.args.shelf.now) (g.S.Shelf.reads c.whole_input.new.shelf) c.args.name.now limit) schema_read c.in_err-bytes.field-0.0 c.in_err-bytes.ensures.outside)
