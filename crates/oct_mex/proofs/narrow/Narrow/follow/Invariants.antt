use Rattle.std.proofs.Common.{◌≡◌, ◌≤◌, length, take, vec_capacity, vec_len}
use Rattle.oct_mex.proofs.narrow.Narrow.follow.Given as goal

abbrev pub invariant-loop-heap : goal.invariant-loop-heap
invariant-loop-heap g l = record {
  len : vec_len l.self.values ≡ l.heap;
  within : l.heap ≤ length l.values;
  room : vec_capacity l.self.values ≡ vec_capacity l.fn.self.values;
  begins : l.self.values.items ≡ take l.heap l.values;
}
