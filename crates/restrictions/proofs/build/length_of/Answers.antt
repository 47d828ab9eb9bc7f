use Rattle.restrictions.proofs.BuildLaws.{length_read}
use Rattle.restrictions.proofs.build.length_of.Goals as goal

pub returns-in-Ok : goal.returns-in-Ok
returns-in-Ok c =
    let read = length_read _ c.args.text.now c.parse.result c.as_str.ensures.bytes c.requires c.parse.ensures.value.0 in cc

pub returns-in-Err : goal.returns-in-Err
returns-in-Err c =
    let read = length_read _ c.args.text.now c.parse.result c.as_str.ensures.bytes c.requires c.parse.ensures.value.0 in cc
