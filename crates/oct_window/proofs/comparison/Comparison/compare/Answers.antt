use Rattle.std.proofs.Common.{arith}
use Rattle.oct_window.proofs.comparison.Comparison.compare.Goals as goal

pub returns-then-not-compare_next-clause-compared : goal.returns-then-not-compare_next-clause-compared
returns-then-not-compare_next-clause-compared g c code row compared = c.compare_next.ensures.compared code row (c.loop.invariant.compared code row compared) (c.loop.invariant.right code row compared) (c.loop.invariant.right_later code row compared)

pub loop-preserved : goal.loop-preserved
loop-preserved g c = record {
  paired = c.compare_next.ensures.paired;
  ahead = omega (arith, c.compare_next.ensures);
  heap = omega (arith, c.compare_next.ensures.heap);
  more = omega arith;
  most = omega arith;
  period = omega (arith, c.compare_next.ensures.period);
  of = c.compare_next.ensures.of;
  of_later = c.compare_next.ensures.of_later;
  right = λ code row compared. c.compare_next.ensures.right code (c.loop.invariant.compared code row compared) (c.loop.invariant.right code row compared);
  right_later = λ code row compared. c.compare_next.ensures.right_later code (c.loop.invariant.compared code row compared) (c.loop.invariant.right_later code row compared);
  compared = λ code row compared. c.compare_next.ensures.compared code row (c.loop.invariant.compared code row compared) (c.loop.invariant.right code row compared) (c.loop.invariant.right_later code row compared);
}
