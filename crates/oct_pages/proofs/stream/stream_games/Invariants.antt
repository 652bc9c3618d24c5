use Rattle.std.proofs.Common.{◌++◌}
use Rattle.std.specs.List.{concat, flat_map}
use Rattle.oct_ops.specs.Operations.{listed}
use Rattle.written.proofs.Piecewise.{IsUnderway}
use Rattle.oct_pages.specs.Catalogue.{game_lines, games}
use Rattle.oct_pages.proofs.BuiltGames.{AreHeld}
use Rattle.oct_pages.proofs.GameParts.{entries_lines}
use Rattle.oct_pages.proofs.stream.stream_games.Given as goal

abbrev pub invariant-loop-code : goal.invariant-loop-code
invariant-loop-code g l = record {
  underway : IsUnderway (g.W.Write.contents l.fn.out) (g.W.Write.contents l.out) (l.fn.piece.items ++ concat (flat_map (game_lines (listed l.fn.part.ops)) (games (listed l.fn.part.ops)))) l.piece.items (concat (entries_lines (listed l.fn.part.ops) l.code-iterator));
  each : AreHeld l.fn.part.ops l.code-iterator;
}
