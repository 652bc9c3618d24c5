use Rattle.std.proofs.Common.{ℕ, ◌<◌, ◌≤◌, map, slice_index}
use Rattle.std.specs.List.{Contains}
use Rattle.oct_sets.specs.Plans.{HasHeap, IsAmong}
use Rattle.oct_sets.specs.declared.sorted.SmallHeap.{SmallHeap}
use Rattle.oct_sets.proofs.sorted.add.Given as goal

abbrev pub invariant-loop-heap : goal.invariant-loop-heap
invariant-loop-heap g l = record {
  each : (apart : ℕ) → ((h : SmallHeap) → Contains l.initial.list.items h → IsAmong (map g.T.Cell.number l.small) apart h) → (h : SmallHeap) → Contains l.list.items h → IsAmong (map g.T.Cell.number l.small) apart h;
  keeps : (h : SmallHeap) → Contains l.initial.list.items h → Contains l.list.items h;
  has : (i : ℕ) → i < l.heap-index → 1 ≤ slice_index l.heaps i → HasHeap l.list.items (slice_index l.heaps i) (slice_index (map g.T.Cell.number l.small) (slice_index l.heaps i));
}
