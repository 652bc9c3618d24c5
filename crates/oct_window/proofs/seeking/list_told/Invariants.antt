use Rattle.std.proofs.Common.{◌≡◌, ◌-◌, ◌≤◌, max, vec_len}
use Rattle.oct_mex.specs.Row.{IsRow}
use Rattle.oct_window.proofs.seeking.list_told.Given as goal

abbrev pub invariant-loop-row : goal.invariant-loop-row
invariant-loop-row g l = record {
  row : IsRow (λ x. x) l.code l.row;
  more : vec_len l.fn.row.values ≤ vec_len l.row.values;
  most : vec_len l.row.values ≤ max l.end (vec_len l.fn.row.values);
  marks : vec_len l.fn.marks ≤ vec_len l.marks;
  heeded : g.K.Keeper.has_refused l.keeper ≡ g.K.Keeper.has_refused l.fn.keeper;
}

abbrev pub decreases-loop-row : goal.decreases-loop-row
decreases-loop-row g l = l.end - vec_len l.row.values
