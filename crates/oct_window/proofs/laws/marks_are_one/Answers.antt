use Rattle.oct_window.proofs.Marking.{marks_are_one}
use Rattle.oct_window.proofs.laws.marks_are_one.Goals as goal

pub returns : goal.returns
returns c = marks_are_one
