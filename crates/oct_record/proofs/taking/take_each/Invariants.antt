use Rattle.std.proofs.Common.{length}
use Rattle.oct_record.proofs.Along.{TakesAlong}
use Rattle.oct_record.proofs.taking.take_each.Given as goal

abbrev pub invariant-loop-next : goal.invariant-loop-next
invariant-loop-next g l = TakesAlong (g.H.Holder.content l.fn.holder) (g.H.Holder.content l.holder) l.fn.ops l.ops l.done l.new

abbrev pub decreases-loop-next : goal.decreases-loop-next
decreases-loop-next g l = length l.ops
