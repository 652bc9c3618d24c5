use Rattle.std.proofs.Common.{◌≡◌, ◌-◌, ◌≤◌, vec_capacity, vec_len}
use Rattle.oct_mex.specs.Periods.{GoesOn}
use Rattle.oct_mex.specs.Row.{IsRow}
use Rattle.oct_search.proofs.cells.push_again_to.Given as goal

abbrev pub invariant-loop-row : goal.invariant-loop-row
invariant-loop-row g l = record {
  row : IsRow g.T.Cell.number l.code l.row;
  most : vec_len l.row.values ≤ l.end;
  room : vec_capacity l.initial.row.values ≤ vec_capacity l.row.values;
  some : 1 ≤ l.period;
  none : l.row.rare.mask.bits ≡ 0;
  on : GoesOn l.code (vec_len l.row.values) l.period;
}

abbrev pub decreases-loop-row : goal.decreases-loop-row
decreases-loop-row g l = l.end - vec_len l.row.values
