use Rattle.std.proofs.Common.{◌≡◌, bit_xor, drop}
use Rattle.oct_mex.specs.NimValues.{position_value as nim_sum}
use Rattle.oct_period.specs.Periods.{position_value_from, xor_onto}
use Rattle.oct_reach.specs.Reaching.{value_told}
use Rattle.oct_reach.proofs.values.position_value.Given as goal

abbrev pub invariant-loop-index : goal.invariant-loop-index
invariant-loop-index g l =
    let value = value_told l.game.code l.found l.game.len in
    record {
      value : xor_onto l.total (position_value_from value l.index (drop l.index l.heaps)) ≡ position_value_from value 0 l.heaps;
      right : bit_xor l.total (nim_sum l.game.code (drop l.index l.heaps)) ≡ nim_sum l.game.code l.heaps;
    }
