use Rattle.std.proofs.Common.{◌<◌, length}
use Rattle.oct_sets.proofs.witnesses.neediest.Given as goal

abbrev pub invariant-loop-at : goal.invariant-loop-at
invariant-loop-at l = l.neediest < length l.lacking
