use Rattle.std.proofs.Common.{◌≤◌}
use Rattle.oct_code.specs.declared.limits.TheConstants.{LIMIT}
use Rattle.oct_pages.proofs.built.last_end.Given as goal

abbrev pub invariant-loop-op : goal.invariant-loop-op
invariant-loop-op g l = l.last ≤ LIMIT
