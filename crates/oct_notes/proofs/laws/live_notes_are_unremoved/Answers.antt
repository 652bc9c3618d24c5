use Rattle.oct_notes.proofs.Unremoved.{live_is_unremoved, unremoved_is_live}
use Rattle.oct_notes.proofs.laws.live_notes_are_unremoved.Goals as goal

pub returns : goal.returns
returns c ops note = (live_is_unremoved ops note, unremoved_is_live ops note)
