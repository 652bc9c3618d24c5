use Rattle.std.proofs.Common.{◌≡◌, ℕ, ◌<◌, ◌^◌, ◌↔◌, length, map, slice_index, bit_xor}
use Rattle.bitsets.specs.Sets.{Has}
use Rattle.bitsets.proofs.Framing.{above}
use Rattle.bitsets.proofs.turning.turn_by.Given as goal

abbrev pub invariant-loop-bit : goal.invariant-loop-bit
invariant-loop-bit g l = record {
  len : length l.sets ≡ length l.initial.sets;
  turned : (i v : ℕ) → i < length l.initial.sets → v < 2 ^ g.W.Word.digits
      → Has (slice_index (map g.W.Word.number l.sets) i) v ↔ Has (slice_index (map g.W.Word.number l.initial.sets) i) (bit_xor v (above l.bit l.number));
}
