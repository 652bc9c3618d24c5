use Rattle.std.specs.List.{flat_map}
use Rattle.oct_ops.specs.Operations.{listed}
use Rattle.oct_pages.specs.Catalogue.{game_lines, games}
use Rattle.oct_ops.specs.Growth.{Extends}
use Rattle.oct_pages.proofs.BuiltGames.{AreHeld}
use Rattle.oct_pages.proofs.GameParts.{entries_lines}
use Rattle.oct_pages.proofs.Pagers.{Showing}
use Rattle.oct_pages.proofs.games.append_games.Given as goal

abbrev pub invariant-loop-code : goal.invariant-loop-code
invariant-loop-code g l = record {
  shown : Showing l.fn.pager l.pager l.fn.out.items l.out.items (flat_map (game_lines (listed l.fn.said.ops)) (games (listed l.fn.said.ops))) (entries_lines (listed l.fn.said.ops) l.code-iterator);
  each : AreHeld l.fn.said.ops l.code-iterator;
  grown : Extends l.fn.out.items l.out.items;
}
