use Rattle.std.proofs.Common.{◌^◌, ◌<◌, ◌≤◌, ℕ, slice_index}
use Rattle.oct_search.proofs.certificate.greatest.Given as goal

abbrev pub invariant-loop-heap : goal.invariant-loop-heap
invariant-loop-heap l = record {
  within : l.greatest < 2 ^ 32;
  most : (i : ℕ) → i < l.heap-index → slice_index l.heaps i ≤ l.greatest;
}
