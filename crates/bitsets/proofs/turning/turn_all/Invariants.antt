use Rattle.std.proofs.Common.{◌≡◌, ℕ, ◌<◌, ◌≤◌, ◌^◌, ◌↔◌, length, map, slice_index, bit_xor}
use Rattle.bitsets.specs.Sets.{Has}
use Rattle.bitsets.proofs.turning.turn_all.Given as goal

abbrev pub invariant-loop-at : goal.invariant-loop-at
invariant-loop-at g l = record {
  len : length l.sets ≡ length l.initial.sets;
  done : (i v : ℕ) → i < l.at → v < 2 ^ g.W.Word.digits → Has (slice_index (map g.W.Word.number l.sets) i) v ↔ Has (slice_index (map g.W.Word.number l.initial.sets) i) (bit_xor v (2 ^ l.bit));
  left : (i : ℕ) → l.at ≤ i → slice_index (map g.W.Word.number l.sets) i ≡ slice_index (map g.W.Word.number l.initial.sets) i;
}
