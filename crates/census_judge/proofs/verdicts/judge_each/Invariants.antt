use Rattle.std.proofs.Common.{◌≡◌, take}
use Rattle.std.specs.List.{flat_map}
use Rattle.census_judge.specs.Verdicts.{judged_in}
use Rattle.census_judge.proofs.verdicts.judge_each.Given as goal

abbrev pub invariant-loop-code : goal.invariant-loop-code
invariant-loop-code l = l.all.items ≡ flat_map (judged_in l.before.ops l.later.ops) (take l.code-index l.codes)
