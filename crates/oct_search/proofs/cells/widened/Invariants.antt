use Rattle.std.proofs.Common.{◌≡◌, ◌≤◌, take, vec_len, vec_capacity}
use Rattle.oct_search.proofs.cells.widened.Given as goal

abbrev pub invariant-loop-value : goal.invariant-loop-value
invariant-loop-value g l = record {
  items : l.values.items ≡ take l.value-index l.row.values.items;
  len : vec_len l.values ≡ l.value-index;
  room : vec_capacity l.values ≡ l.room;
  enough : vec_len l.row.values ≤ l.room;
}
