use Rattle.std.proofs.Common.{arith}
use Rattle.census_table.proofs.Steps.{dressed_on, rest_at}
use Rattle.census_table.proofs.table.dressed.Goals as goal

pub loop-i-preserved : goal.loop-i-preserved
loop-i-preserved c =
    record {
      same = dressed_on _ _ _ _ _ _ _ _ _ _ _ c.loop-i-test.true (rest_at _ c.loop-i.i) c.in_ok-append_front.ensures c.in_ok-extend_from_slice.ensures.items c.behind-place.ensures.is c.loop-i.invariant.same;
      column = omega arith;
      width = omega arith;
    }
