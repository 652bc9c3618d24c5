use Rattle.oct_said.proofs.Reading.{lines_are_read, texts_are_read, texts_are_written}
use Rattle.oct_said.proofs.laws.texts_are_read.Goals as goal

pub returns-clause-read : goal.returns-clause-read
returns-clause-read c = texts_are_read

pub returns-clause-written : goal.returns-clause-written
returns-clause-written c = texts_are_written

pub returns-clause-lines : goal.returns-clause-lines
returns-clause-lines c = lines_are_read
