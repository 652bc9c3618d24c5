use Rattle.std.proofs.Common.{◌≡◌, bit_xor, drop}
use Rattle.std.specs.Option.{option_map}
use Rattle.oct_mex.specs.NimValues.{position_value as nim_sum}
use Rattle.oct_period.specs.Claims.{Claim}
use Rattle.oct_period.specs.Periods.{heap_value_by, position_value_from, xor_onto}
use Rattle.oct_verify.specs.Filing.{blocks_in}
use Rattle.oct_period.proofs.values.position_value_by.Given as goal

abbrev pub invariant-loop-index : goal.invariant-loop-index
invariant-loop-index g l =
    let value = heap_value_by l.ledger.code (blocks_in l.ledger.blocks) (option_map (λ (c : Claim). c.1) l.claim) in
    record {
      value : xor_onto l.total (position_value_from value l.index (drop l.index l.heaps)) ≡ position_value_from value 0 l.heaps;
      right : bit_xor l.total (nim_sum l.ledger.code (drop l.index l.heaps)) ≡ nim_sum l.ledger.code l.heaps;
    }
