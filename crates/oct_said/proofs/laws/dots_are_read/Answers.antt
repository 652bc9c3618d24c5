use Rattle.oct_said.proofs.ReadingDots.{dots_are_read, dots_are_written}
use Rattle.oct_said.proofs.laws.dots_are_read.Goals as goal

pub returns-clause-read : goal.returns-clause-read
returns-clause-read c = dots_are_read

pub returns-clause-written : goal.returns-clause-written
returns-clause-written c = dots_are_written
