use Rattle.std.proofs.Common.{◌≡◌, ℕ, ◌<◌, ◌≤◌, get_or, length, take, vec_capacity, vec_len}
use Rattle.std.specs.List.{AllWithin}
use Rattle.oct_saved.proofs.parts.rare_of.Given as goal

abbrev pub invariant-loop-heap : goal.invariant-loop-heap
invariant-loop-heap g l = record {
  mask : l.rare.mask ≡ l.fn.mask;
  heaps : l.rare.heaps.items ≡ take l.heap-index l.heaps;
  values : (k : ℕ) → k < l.heap-index → get_or l.rare.values.items k 0 ≡ get_or l.held (get_or l.heaps k 0) 0;
  heaps_len : vec_len l.rare.heaps ≡ l.heap-index;
  values_len : vec_len l.rare.values ≡ l.heap-index;
  heaps_room : length l.heaps ≤ vec_capacity l.rare.heaps;
  values_room : length l.heaps ≤ vec_capacity l.rare.values;
  few : AllWithin (λ h. h ≤ l.reach) l.heaps 0 l.heap-index;
}
