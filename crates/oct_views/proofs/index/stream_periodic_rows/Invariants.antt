use Rattle.std.proofs.Common.{◌++◌}
use Rattle.std.specs.List.{flat_map}
use Rattle.oct_views.specs.Index.{periodic_row}
use Rattle.written.proofs.Piecewise.{IsUnderway}
use Rattle.oct_views.proofs.index.stream_periodic_rows.Given as goal

abbrev pub invariant-loop-row : goal.invariant-loop-row
invariant-loop-row g l =
    IsUnderway (g.W.Write.contents l.fn.out) (g.W.Write.contents l.out) (l.fn.piece.items ++ flat_map (periodic_row l.fn.links) l.found.keys) l.piece.items
    (flat_map (periodic_row l.fn.links) l.row-iterator)
