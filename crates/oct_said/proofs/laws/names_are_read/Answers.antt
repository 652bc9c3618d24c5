use Rattle.oct_said.proofs.ReadingNames.{names_are_read, names_are_written}
use Rattle.oct_said.proofs.laws.names_are_read.Goals as goal

pub returns-clause-read : goal.returns-clause-read
returns-clause-read c = names_are_read

pub returns-clause-written : goal.returns-clause-written
returns-clause-written c = names_are_written
