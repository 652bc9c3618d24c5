use Rattle.std.proofs.Common.{◌≡◌, List, ℕ, vec_len}
use Rattle.std.specs.List.{All}
use Rattle.oct_mex.specs.Totals.{IsTable}
use Rattle.oct_mex.specs.declared.mask.Mask.{Mask}
use Rattle.oct_mex.proofs.totals.room_for_tables.Given as goal

abbrev pub invariant-loop : goal.invariant-loop
invariant-loop g l = (mask : Mask) (all : List ℕ) → All (IsTable mask all) l.initial.tables.items → All (IsTable mask all) l.tables.items

abbrev pub invariant-loop-at : goal.invariant-loop-at
invariant-loop-at g l = record {
  len : vec_len l.tables ≡ vec_len l.initial.tables;
  kept : (mask : Mask) (all : List ℕ) → All (IsTable mask all) l.fn.tables.items → All (IsTable mask all) l.tables.items;
}
