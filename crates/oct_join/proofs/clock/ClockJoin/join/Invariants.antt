use Rattle.std.proofs.Common.{drop}
use Rattle.oct_join.proofs.Merging.{MergesAlong}
use Rattle.oct_join.proofs.clock.ClockJoin.join.Given as goal

abbrev pub invariant-loop-author : goal.invariant-loop-author
invariant-loop-author g l = MergesAlong l.fn.self l.fn.other l.self (drop l.author-index l.author-items)
