use Rattle.std.proofs.Common.{arith}
use Rattle.oct_verify.proofs.shelf.Shelf.new.Goals as goal

pub returns-clause-code : goal.returns-clause-code
returns-clause-code g c = cc

pub returns-clause-kept : goal.returns-clause-kept
returns-clause-kept g c = record {
  halfway = record {
    chunks = c.new-2.ensures.chunked;
    settling = rw c.new-2.ensures.empty record {
      rising = λ i j d lt within. absurd (omega arith);
      mark = omega arith;
      fits = λ i d within. absurd (omega arith);
      done = λ i d lo hi. absurd (omega arith);
      waiting = λ i d lo hi. absurd (omega arith);
      positive = omega arith;
      covered = λ n lo hi. absurd (omega arith);
    };
    within = omega arith;
    held = omega arith;
  };
  parked = rw c.new-2.ensures.empty (λ i d lo hi. absurd (omega arith));
}

pub returns-clause-empty : goal.returns-clause-empty
returns-clause-empty g c = cc
