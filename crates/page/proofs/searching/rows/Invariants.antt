use Rattle.std.proofs.Common.{◌≡◌, ◌++◌, drop}
use Rattle.oct_mex.specs.NimValues.{nim_values}
use Rattle.oct_bfile.specs.Bfile.{bfile_text, rows_text}
use Rattle.page.proofs.searching.rows.Given as goal

abbrev pub invariant-loop-heap : goal.invariant-loop-heap
invariant-loop-heap g l = l.text.items ++ rows_text l.heap (drop l.heap (nim_values l.game.code l.game.len)) ≡ bfile_text (nim_values l.game.code l.game.len)
