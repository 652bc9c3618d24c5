use Rattle.oct_delta.proofs.Deltas.{encoded_is_text}
use Rattle.oct_delta.proofs.laws.what_is_written_is_a_text.Goals as goal

pub returns : goal.returns
returns c = encoded_is_text
