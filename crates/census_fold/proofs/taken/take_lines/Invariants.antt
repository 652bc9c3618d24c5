use Rattle.std.proofs.Common.{◌+◌, ◌≤◌}
use Rattle.census_fold.proofs.Underway.{IsUnderway}
use Rattle.census_fold.proofs.taken.take_lines.Given as goal

abbrev pub invariant-loop-bytes : goal.invariant-loop-bytes
invariant-loop-bytes g l = record {
  underway : IsUnderway (g.B.Read.remaining l.fn.input) (g.B.Read.remaining l.input) l.intake.held l.intake.refused l.fn.limit l.left;
  bounded : l.intake.refused + l.left ≤ l.fn.limit;
}

abbrev pub decreases-loop-bytes : goal.decreases-loop-bytes
decreases-loop-bytes g l = l.left
