use Rattle.oct_code.proofs.CodeLaws.{written_is_read}
use Rattle.oct_code.proofs.laws.written_codes_are_read.Goals as goal

pub returns : goal.returns
returns c = written_is_read
