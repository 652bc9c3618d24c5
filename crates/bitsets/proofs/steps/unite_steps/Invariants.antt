use Rattle.std.proofs.Common.{◌≡◌, ℕ, ◌+◌, ◌-◌, ◌<◌, ◌≤◌, length, map, slice_index}
use Rattle.bitsets.specs.Sets.{AddsSmall, IsMadeBehind}
use Rattle.bitsets.proofs.steps.unite_steps.Given as goal

abbrev pub invariant-loop-done : goal.invariant-loop-done
invariant-loop-done g l = record {
  len : length l.block ≡ length l.initial.block;
  within : l.done ≤ length l.initial.block;
  adds : (i : ℕ) → i < l.done
      → AddsSmall g.W.Word.digits (slice_index (map g.W.Word.number l.initial.block) i) (slice_index (map g.W.Word.number l.block) i) (IsMadeBehind (map g.W.Word.number l.sets) (l.place + i) l.offsets l.values (length l.offsets));
  left : (i : ℕ) → l.done ≤ i → slice_index (map g.W.Word.number l.block) i ≡ slice_index (map g.W.Word.number l.initial.block) i;
}

abbrev pub decreases-loop-done : goal.decreases-loop-done
decreases-loop-done g l = length l.block - l.done

abbrev pub invariant-loop-done-2 : goal.invariant-loop-done-2
invariant-loop-done-2 g l = record {
  len : length l.block ≡ length l.fn.block;
  within : l.done ≤ length l.fn.block;
  adds : (i : ℕ) → i < l.done
      → AddsSmall g.W.Word.digits (slice_index (map g.W.Word.number l.fn.block) i) (slice_index (map g.W.Word.number l.block) i) (IsMadeBehind (map g.W.Word.number l.sets) (l.place + i) l.offsets l.values (length l.offsets));
  left : (i : ℕ) → l.done ≤ i → slice_index (map g.W.Word.number l.block) i ≡ slice_index (map g.W.Word.number l.fn.block) i;
}

abbrev pub decreases-loop-done-2 : goal.decreases-loop-done-2
decreases-loop-done-2 g l = length l.block - l.done
