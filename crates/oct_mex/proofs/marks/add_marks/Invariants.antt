use Rattle.std.proofs.Common.{◌<◌}
use Rattle.oct_mex.specs.Marks.{AddsMarks, IsMarked}
use Rattle.oct_mex.proofs.marks.add_marks.Given as goal

abbrev pub invariant-loop-at : goal.invariant-loop-at
invariant-loop-at l = AddsMarks l.initial.marks l.marks (λ v. (v < l.at) × IsMarked l.others v)
