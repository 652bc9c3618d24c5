use Rattle.oct_sql.proofs.Reading.{literals_read}
use Rattle.oct_sql.proofs.laws.literals_read_back.Goals as goal

pub returns : goal.returns
returns c = literals_read
