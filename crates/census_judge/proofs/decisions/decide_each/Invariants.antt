use Rattle.std.proofs.Common.{◌≡◌, take}
use Rattle.std.specs.List.{flat_map}
use Rattle.census_judge.specs.Decisions.{decided_in}
use Rattle.census_judge.proofs.decisions.decide_each.Given as goal

abbrev pub invariant-loop-code : goal.invariant-loop-code
invariant-loop-code l = l.all.items ≡ flat_map (decided_in l.before.ops l.later.ops) (take l.code-index l.codes)
