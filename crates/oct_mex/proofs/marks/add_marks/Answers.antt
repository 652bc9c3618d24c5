use Rattle.std.proofs.Common.{arith}
use Rattle.oct_mex.proofs.Tables.{or_more}
use Rattle.oct_mex.proofs.marks.add_marks.Goals as goal

pub loop-at-preserved : goal.loop-at-preserved
loop-at-preserved c = or_more c.args.marks.now c.loop-at.marks c.args.others.now c.loop-at.at (omega arith) c.loop-at.invariant
