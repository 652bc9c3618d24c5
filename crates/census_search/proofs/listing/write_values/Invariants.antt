use Rattle.std.proofs.Common.{◌≡◌, ◌++◌, drop, List, ℕ}
use Rattle.std.specs.Io.KnownBytes.{Appends}
use Rattle.oct_mex.specs.NimValues.{nim_values}
use Rattle.oct_bfile.specs.Bfile.{bfile_text, rows_text}
use Rattle.census_search.proofs.listing.write_values.Given as goal

abbrev pub invariant-loop-heap : goal.invariant-loop-heap
invariant-loop-heap g l =
    (written : List ℕ)
    × Appends (g.W.Write.contents l.fn.writer) (g.W.Write.contents l.writer) written
    × (written ++ l.piece.items ++ rows_text l.heap (drop l.heap (nim_values l.game.code l.game.len)) ≡ bfile_text (nim_values l.game.code l.game.len))
