use Rattle.std.proofs.Common.{◌≡◌, ◌++◌, length}
use Rattle.oct_bfile.specs.Bfile.{row_values}
use Rattle.oct_bfile.proofs.bfile.row_values.Given as goal

abbrev pub invariant-loop-text : goal.invariant-loop-text
invariant-loop-text g l = row_values l.bytes ≡ l.values.items ++ row_values l.rest

abbrev pub decreases-loop-text : goal.decreases-loop-text
decreases-loop-text g l = length l.rest
