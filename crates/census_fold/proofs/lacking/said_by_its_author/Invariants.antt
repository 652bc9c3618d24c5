use Rattle.census_fold.proofs.Owning.{OwnAlong}
use Rattle.census_fold.proofs.lacking.said_by_its_author.Given as goal

abbrev pub invariant-loop-op : goal.invariant-loop-op
invariant-loop-op l = OwnAlong l.held.author l.held.ops l.own l.op-iterator
