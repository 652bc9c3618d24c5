use Rattle.std.proofs.Common.{◌≡◌, ◌+◌, ◌++◌, drop}
use Rattle.census_judge.specs.Checking.{wrong_values}
use Rattle.census_judge.proofs.checking.wrong_values.Given as goal

abbrev pub invariant-loop-index : goal.invariant-loop-index
invariant-loop-index l = l.wrong.items ++ wrong_values l.values.code (l.start + l.index) (drop l.index l.claimed) ≡ wrong_values l.values.code l.start l.claimed
