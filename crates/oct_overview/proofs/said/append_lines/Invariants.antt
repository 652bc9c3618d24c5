use Rattle.std.proofs.Common.{◌≡◌, ◌++◌, take}
use Rattle.std.specs.List.{flat_map}
use Rattle.oct_overview.specs.Said.{said_line}
use Rattle.oct_overview.proofs.said.append_lines.Given as goal

abbrev pub invariant-loop-long : goal.invariant-loop-long
invariant-loop-long g l = l.out.items ≡ l.fn.out.items ++ flat_map (said_line l.fn.remarks l.fn.code) (take l.long-index l.said)
