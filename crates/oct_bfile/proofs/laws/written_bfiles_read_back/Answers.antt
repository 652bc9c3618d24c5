use Rattle.oct_bfile.proofs.ReadingBack.{written_reads_back}
use Rattle.oct_bfile.proofs.laws.written_bfiles_read_back.Goals as goal

pub returns : goal.returns
returns c = written_reads_back
