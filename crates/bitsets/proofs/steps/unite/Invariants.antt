use Rattle.std.proofs.Common.{◌≡◌, ℕ, ◌<◌, ◌≤◌, length, map, slice_index, bit_or}
use Rattle.bitsets.proofs.steps.unite.Given as goal

abbrev pub invariant-loop-at : goal.invariant-loop-at
invariant-loop-at g l = record {
  len : length l.sets ≡ length l.initial.sets;
  done : (i : ℕ) → i < l.at → slice_index (map g.W.Word.number l.sets) i ≡ bit_or (slice_index (map g.W.Word.number l.initial.sets) i) (slice_index (map g.W.Word.number l.others) i);
  left : (i : ℕ) → l.at ≤ i → slice_index (map g.W.Word.number l.sets) i ≡ slice_index (map g.W.Word.number l.initial.sets) i;
}
