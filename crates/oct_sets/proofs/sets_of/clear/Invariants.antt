use Rattle.std.proofs.Common.{◌≡◌, ℕ, ◌<◌, length, map, slice_index}
use Rattle.oct_sets.proofs.sets_of.clear.Given as goal

abbrev pub invariant-loop-at : goal.invariant-loop-at
invariant-loop-at g l = record {
  len : length l.block ≡ length l.initial.block;
  none : (i : ℕ) → i < l.at → slice_index (map g.W.Word.number l.block) i ≡ 0;
}
