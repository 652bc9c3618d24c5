use Rattle.std.proofs.Common.{arith}
use Rattle.oct_window.proofs.comparison.Comparison.new.Goals as goal

pub returns-clause-compared : goal.returns-clause-compared
returns-clause-compared g c code values first second = record {
  first = c.new.ensures.right code first.known first.code;
  second = c.new-2.ensures.right code second.known second.code;
  again = λ n low near. absurd (omega (arith, c.new.ensures.heap));
  earliest = λ more. absurd (omega arith);
}
