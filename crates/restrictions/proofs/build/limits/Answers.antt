use Rattle.restrictions.proofs.BuildLaws.{first_err, second_err, both_ok}
use Rattle.restrictions.proofs.build.limits.Goals as goal

pub returns-in-Err : goal.returns-in-Err
returns-in-Err c = first_err _ _ _ _ _ _ _ c.in-Err.ensures

pub returns-in-Err-lengths : goal.returns-in-Err-lengths
returns-in-Err-lengths c = second_err _ _ _ _ _ _ _ _ c.in-Ok.ensures c.in-Err-lengths.ensures

pub returns-in-Ok-lengths : goal.returns-in-Ok-lengths
returns-in-Ok-lengths c = both_ok _ _ _ _ _ _ _ _ c.in-Ok.ensures c.in-Ok-lengths.ensures
