use Rattle.oct_answer.specs.Left.{lacking}
use Rattle.oct_answer.proofs.Gathered.{Halfway, others}
use Rattle.oct_answer.proofs.missing.next_frame.Given as goal

abbrev pub invariant-loop-count : goal.invariant-loop-count
invariant-loop-count g l = Halfway (lacking l.fn.held l.fn.clock l.fn.at) l.ops.items (others l.fn.clock l.rest l.count) l.size
