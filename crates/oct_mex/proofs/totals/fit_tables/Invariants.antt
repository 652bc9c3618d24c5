use Rattle.std.proofs.Common.{List, ℕ, ◌≡◌, length}
use Rattle.std.specs.List.{All, AllWithin}
use Rattle.oct_mex.specs.Totals.{IsLong, IsTable}
use Rattle.oct_mex.specs.declared.mask.Mask.{Mask}
use Rattle.oct_mex.proofs.totals.fit_tables.Given as goal

abbrev pub invariant-loop-at : goal.invariant-loop-at
invariant-loop-at g l = record {
  count : length l.tables ≡ length l.initial.tables;
  kept : (mask : Mask) (all : List ℕ) → All (IsTable mask all) l.initial.tables → All (IsTable mask all) l.tables;
  long : AllWithin (IsLong l.size) l.tables 0 l.at;
}
