use Rattle.std.proofs.Common.{◌≡◌, ◌+◌, ◌<◌, ◌≤◌, IfSome, length, map, slice_index}
use Rattle.oct_sets.proofs.witnesses.Known.best_paired.Given as goal

abbrev pub invariant-loop-heap : goal.invariant-loop-heap
invariant-loop-heap g l = record {
  best : IfSome l.best (λ w. (64 ≤ w.heap) × (w.heap < length l.self.small.now) × (slice_index (map g.T.Cell.number l.self.small.now) w.heap < 64) × (w.heap + l.self.apart < length l.self.small.now) × (slice_index (map g.T.Cell.number l.self.small.now) (w.heap + l.self.apart) ≡ slice_index (map g.T.Cell.number l.self.small.now) w.heap));
  tried : l.tried ≤ 16;
}
