use Rattle.std.proofs.Common.{length, ◌-◌}
use Rattle.oct_search.proofs.seldom.Seldom.go_on.Given as goal

abbrev pub decreases-loop-end : goal.decreases-loop-end
decreases-loop-end g l = length l.values - l.end
