use Rattle.std.proofs.Common.{◌≡◌, true, ◌++◌}
use Rattle.std.specs.List.{concat, list_all}
use Rattle.oct_ops.specs.Sets.{contains}
use Rattle.written.proofs.Piecewise.{IsUnderway}
use Rattle.oct_pages.specs.Catalogue.{blocks_of}
use Rattle.oct_pages.specs.HeldBlocks.{held_lines, lines_by}
use Rattle.oct_pages.proofs.held_blocks.HeldBlocks.put_lines.Given as goal

abbrev pub invariant-loop-op : goal.invariant-loop-op
invariant-loop-op g l = record {
  underway : IsUnderway (g.W.Write.contents l.fn.out) (g.W.Write.contents l.out) (l.fn.piece.items ++ concat (held_lines l.self)) l.piece.items (concat (lines_by l.self.game (blocks_of l.code l.op-iterator)));
  held : list_all (contains l.self.game.blocks) (blocks_of l.code l.op-iterator) ≡ true;
}
