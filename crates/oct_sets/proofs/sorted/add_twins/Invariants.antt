use Rattle.std.proofs.Common.{◌≡◌, ℕ, ◌+◌, ◌<◌, length, map, slice_index}
use Rattle.std.specs.List.{Contains}
use Rattle.oct_sets.specs.Plans.{IsAmong}
use Rattle.oct_sets.specs.declared.sorted.SmallHeap.{SmallHeap}
use Rattle.oct_sets.proofs.sorted.add_twins.Given as goal

abbrev pub invariant-loop-heap : goal.invariant-loop-heap
invariant-loop-heap g l = record {
  each : (apart : ℕ) → ((h : SmallHeap) → Contains l.initial.list.items h → IsAmong (map g.T.Cell.number l.small) apart h)
      → ((h : ℕ) → Contains l.heaps h → (h + apart < length l.small) × (slice_index (map g.T.Cell.number l.small) (h + apart) ≡ slice_index (map g.T.Cell.number l.small) h))
      → (h : SmallHeap) → Contains l.list.items h → IsAmong (map g.T.Cell.number l.small) apart h;
  keeps : (h : SmallHeap) → Contains l.initial.list.items h → Contains l.list.items h;
}
