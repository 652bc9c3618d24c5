use Rattle.std.proofs.Common.{◌≡◌, ◌≤◌, length, vec_len, vec_capacity}
use Rattle.oct_mex.specs.NimValues.{nim_values}
use Rattle.oct_mex.proofs.following.Leader.new.Given as goal

abbrev pub invariant-loop-heap : goal.invariant-loop-heap
invariant-loop-heap g l = record {
  items : l.held.items ≡ nim_values l.code l.heap;
  len : vec_len l.held ≡ l.heap;
  room : length l.values ≤ vec_capacity l.held;
}
