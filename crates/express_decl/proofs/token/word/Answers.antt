use Rattle.std.proofs.Common.{ap, ◌∙◌}
use Rattle.reading.specs.Runs.{run}
use Rattle.reading.specs.Reading.{Text}
use Rattle.express_decl.specs.Tokens.{is_word}
use Rattle.express_decl.proofs.Words.{word_text, word_left}
use Rattle.express_decl.proofs.token.word.Goals as goal

pub returns-clause-word : goal.returns-clause-word
returns-clause-word c =
    word_text c.rest-bytes.result.now c.word_length-length.result c.word_length-length.ensures.length
    ∙ ap (λ (t : Text). (run is_word t).0) c.rest-bytes.ensures

pub returns-clause-left : goal.returns-clause-left
returns-clause-left c =
    c.new.ensures ∙ word_left c.rest-bytes.result.now c.word_length-length.result c.word_length-length.ensures.length
    ∙ ap (λ (t : Text). (run is_word t).1) c.rest-bytes.ensures
