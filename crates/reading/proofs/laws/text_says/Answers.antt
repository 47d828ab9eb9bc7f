use Rattle.reading.proofs.Says.{says_chars}
use Rattle.reading.proofs.laws.text_says.Goals as goal

pub returns : goal.returns
returns c = says_chars
