use Rattle.p21_read.proofs.FileLaws.{one_file_reading}
use Rattle.p21_read.proofs.laws.one_file.Goals as goal

pub returns : goal.returns
returns c = one_file_reading
