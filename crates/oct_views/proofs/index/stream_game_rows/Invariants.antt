use Rattle.std.proofs.Common.{◌++◌, take}
use Rattle.std.specs.List.{flat_map}
use Rattle.oct_views.specs.Index.{game_row}
use Rattle.written.specs.Output.{AppendsFront}
use Rattle.oct_views.proofs.index.stream_game_rows.Given as goal

abbrev pub invariant-loop-row : goal.invariant-loop-row
invariant-loop-row g l =
    AppendsFront (g.W.Write.contents l.fn.out) (g.W.Write.contents l.out) (l.fn.piece.items ++ flat_map (game_row l.fn.links l.fn.remarks l.fn.columns) (take l.row-index l.rows))
    l.piece.items
