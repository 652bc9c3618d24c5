use Rattle.std.proofs.Common.{◌<◌, ◌≤◌, ◌-◌, length, map}
use Rattle.oct_mex.specs.Periods.{NoneReturns}
use Rattle.oct_mex.proofs.period.least_return.Given as goal

abbrev pub invariant-loop-period : goal.invariant-loop-period
invariant-loop-period g l = record {
  some : 1 ≤ l.period;
  within : l.period ≤ l.from;
  behind : l.from ≤ l.later;
  held : l.later < length l.values;
  none : NoneReturns (map g.T.Cell.number l.values) l.from l.period;
}

abbrev pub decreases-loop-period : goal.decreases-loop-period
decreases-loop-period g l = l.from - l.period
