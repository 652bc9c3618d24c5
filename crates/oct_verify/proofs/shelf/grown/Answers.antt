use Rattle.std.proofs.Common.{arith}
use Rattle.oct_verify.proofs.shelf.grown.Goals as goal

pub returns-in-Proved : goal.returns-in-Proved
returns-in-Proved c = rw c.in-Proved.is (cc)

pub returns-in-Refuted : goal.returns-in-Refuted
returns-in-Refuted c = grind arith
