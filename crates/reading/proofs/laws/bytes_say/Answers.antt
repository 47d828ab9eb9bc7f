use Rattle.std.proofs.Common.{subst}
use Rattle.reading.specs.Codes.{Says}
use Rattle.reading.proofs.Says.{says, says_only}
use Rattle.reading.proofs.laws.bytes_say.Goals as goal

pub returns : goal.returns
returns c = λ bytes codes. (λ said. says_only said, λ e. subst (λ l. Says bytes l) e (says bytes))
