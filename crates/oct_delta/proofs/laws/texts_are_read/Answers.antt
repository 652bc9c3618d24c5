use Rattle.oct_delta.proofs.Deltas.{reads}
use Rattle.oct_delta.proofs.laws.texts_are_read.Goals as goal

pub returns : goal.returns
returns c = reads
