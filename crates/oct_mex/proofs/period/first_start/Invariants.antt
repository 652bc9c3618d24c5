use Rattle.std.proofs.Common.{◌≤◌, map}
use Rattle.oct_mex.specs.Periods.{ComesAgain}
use Rattle.oct_mex.proofs.period.first_start.Given as goal

abbrev pub invariant-loop-start : goal.invariant-loop-start
invariant-loop-start g l = record {
  some : 1 ≤ l.start;
  within : l.start ≤ l.fn.last;
  again : ComesAgain (map g.T.Cell.number l.values) l.start l.period;
}

abbrev pub decreases-loop-start : goal.decreases-loop-start
decreases-loop-start g l = l.start
