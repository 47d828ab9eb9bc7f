use Rattle.ids_reader.proofs.Forms.{form_of_answer}
use Rattle.ids_reader.proofs.SaysLemmas.{found_of, only_of}
use Rattle.ids_reader.proofs.document.read_ids.Goals as goal

pub returns-clause-found : goal.returns-clause-found
returns-clause-found c = found_of c.args.schema.now c.args.schema_id.now c.args.bytes.now c.reading_of.result c.reading_of.ensures

pub returns-clause-only : goal.returns-clause-only
returns-clause-only c = only_of c.args.schema.now c.args.schema_id.now c.args.bytes.now c.reading_of.result c.reading_of.ensures

pub returns-clause-form : goal.returns-clause-form
returns-clause-form c = form_of_answer c.args.schema.now c.args.schema_id.now c.args.bytes.now c.reading_of.result c.reading_of.ensures
