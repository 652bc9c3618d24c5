use Rattle.std.proofs.Common.{List, ℕ}
use Rattle.std.specs.List.{AllWithin}
use Rattle.oct_mex.specs.Totals.{IsTable}
use Rattle.oct_mex.specs.declared.mask.Mask.{Mask}
use Rattle.oct_mex.proofs.totals.clear_tables.Given as goal

abbrev pub invariant-loop-at : goal.invariant-loop-at
invariant-loop-at g l = (mask : Mask) (all : List ℕ) → AllWithin (IsTable mask all) l.tables 0 l.at
