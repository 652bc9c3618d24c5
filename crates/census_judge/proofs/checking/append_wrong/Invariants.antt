use Rattle.std.proofs.Common.{◌≡◌, ◌++◌, take}
use Rattle.std.specs.List.{flat_map}
use Rattle.census_judge.specs.Checking.{wrong_line}
use Rattle.census_judge.proofs.checking.append_wrong.Given as goal

abbrev pub invariant-loop-one : goal.invariant-loop-one
invariant-loop-one l = l.text.items ≡ l.fn.text.items ++ flat_map wrong_line (take l.one-index l.wrong)
