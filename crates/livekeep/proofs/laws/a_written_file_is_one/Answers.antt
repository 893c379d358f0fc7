use Rattle.livekeep.proofs.WrittenFiles.{written_file}
use Rattle.livekeep.proofs.laws.a_written_file_is_one.Goals as goal

pub returns : goal.returns
returns c = written_file
