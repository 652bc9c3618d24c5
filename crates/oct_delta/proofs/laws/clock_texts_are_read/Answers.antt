use Rattle.oct_delta.proofs.ClockTexts.{reads_clock}
use Rattle.oct_delta.proofs.laws.clock_texts_are_read.Goals as goal

pub returns : goal.returns
returns c = reads_clock
