use Rattle.oct_notes.proofs.Unremoved.{live_rise}
use Rattle.oct_notes.proofs.laws.live_notes_rise.Goals as goal

pub returns : goal.returns
returns c = live_rise
