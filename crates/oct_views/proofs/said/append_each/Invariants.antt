use Rattle.std.proofs.Common.{◌≡◌, ◌++◌, take}
use Rattle.std.specs.List.{flat_map}
use Rattle.oct_views.specs.Game.{said_between}
use Rattle.oct_views.proofs.said.append_each.Given as goal

abbrev pub invariant-loop-long : goal.invariant-loop-long
invariant-loop-long g l = l.out.items ≡ l.fn.out.items ++ flat_map (said_between l.fn.before l.fn.behind l.fn.remarks) (take l.long-index l.said)
