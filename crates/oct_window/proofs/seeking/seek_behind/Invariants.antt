use Rattle.std.proofs.Common.{◌≡◌, ◌-◌, ◌≤◌, vec_len}
use Rattle.oct_mex.specs.Row.{IsRow}
use Rattle.oct_window.specs.declared.seeking.TheConstants.{MOST_LISTED}
use Rattle.oct_window.specs.declared.window.TheConstants.{MARKS}
use Rattle.oct_window.proofs.seeking.seek_behind.Given as goal

abbrev pub invariant-loop-row : goal.invariant-loop-row
invariant-loop-row g l = record {
  row : IsRow (λ x. x) l.code l.row;
  few : vec_len l.row.values ≤ l.count;
  some : 1 ≤ l.size;
  grows : l.first ≤ l.size;
  most : l.size ≤ MOST_LISTED;
  marks : MARKS ≤ vec_len l.marks;
  heeded : g.K.Keeper.has_refused l.keeper ≡ g.K.Keeper.has_refused l.fn.keeper;
}

abbrev pub decreases-loop-row : goal.decreases-loop-row
decreases-loop-row g l = MOST_LISTED - l.size
