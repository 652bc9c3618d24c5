use Rattle.std.proofs.Common.{◌-◌, ◌≤◌, max, vec_len}
use Rattle.oct_mex.specs.Periods.{GoesOn}
use Rattle.oct_mex.specs.Row.{IsRow}
use Rattle.oct_search.proofs.cells.push_all_again_in.Given as goal

abbrev pub invariant-loop-row : goal.invariant-loop-row
invariant-loop-row g l = record {
  row : IsRow g.T.Cell.number l.code l.row;
  more : vec_len l.initial.row.values ≤ vec_len l.row.values;
  most : vec_len l.row.values ≤ max l.end (vec_len l.initial.row.values);
  on : GoesOn l.code (vec_len l.row.values) l.period;
}

abbrev pub decreases-loop-row : goal.decreases-loop-row
decreases-loop-row g l = l.end - vec_len l.row.values
