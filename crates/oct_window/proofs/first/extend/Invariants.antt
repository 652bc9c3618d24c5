use Rattle.std.proofs.Common.{◌≡◌, ◌≤◌, max, vec_len, vec_capacity}
use Rattle.oct_mex.specs.Row.{IsRow}
use Rattle.oct_window.proofs.first.extend.Given as goal

abbrev pub invariant-loop : goal.invariant-loop
invariant-loop g l = record {
  row : IsRow (λ x. x) l.code l.row;
  len : vec_len l.row.values ≡ l.counter;
  room : l.count ≤ vec_capacity l.row.values;
  marks : vec_len l.fn.marks ≤ vec_len l.marks;
  more : vec_len l.fn.row.values ≤ l.counter;
  most : l.counter ≤ max l.count (vec_len l.fn.row.values);
}
