use Rattle.std.proofs.Common.{◌<◌}
use Rattle.oct_mex.proofs.mask.least_place.Given as goal

abbrev pub invariant-loop-at : goal.invariant-loop-at
invariant-loop-at l = l.least < l.at
