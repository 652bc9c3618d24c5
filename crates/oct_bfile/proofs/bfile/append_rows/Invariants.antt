use Rattle.std.proofs.Common.{◌≡◌, ◌++◌, drop}
use Rattle.oct_ops.specs.Growth.{Extends}
use Rattle.oct_bfile.specs.Bfile.{bfile_text, rows_text}
use Rattle.oct_bfile.proofs.bfile.append_rows.Given as goal

abbrev pub invariant-loop-number : goal.invariant-loop-number
invariant-loop-number g l = record {
  text : l.out.items ++ rows_text l.number (drop l.number l.values) ≡ l.fn.out.items ++ bfile_text l.values;
  grown : Extends l.fn.out.items l.out.items;
}
