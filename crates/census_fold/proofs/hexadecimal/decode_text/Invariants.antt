use Rattle.std.proofs.Common.{◌-◌, ◌+◌, ◌≤◌}
use Rattle.std.specs.Vec.{vec_len, vec_capacity}
use Rattle.census_fold.proofs.DigitPairs.{HasRead}
use Rattle.census_fold.proofs.hexadecimal.decode_text.Given as goal

abbrev pub invariant-pairs : goal.invariant-pairs
invariant-pairs g l = record {
  read : HasRead l.text l.i l.bytes.items;
  room : vec_len l.bytes + (l.count - l.i) ≤ vec_capacity l.bytes;
}
