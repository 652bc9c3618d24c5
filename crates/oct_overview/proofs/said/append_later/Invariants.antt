use Rattle.std.proofs.Common.{◌≡◌, ◌++◌, take}
use Rattle.std.specs.List.{flat_map}
use Rattle.oct_overview.specs.Said.{later_object}
use Rattle.oct_overview.proofs.said.append_later.Given as goal

abbrev pub invariant-loop-long : goal.invariant-loop-long
invariant-loop-long g l = l.out.items ≡ l.fn.out.items ++ flat_map (later_object l.fn.remarks) (take l.long-index l.rest)
