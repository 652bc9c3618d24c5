use Rattle.std.proofs.Common.{sym, ap, ◌∙◌}
use Rattle.oct_ops.specs.Operations.{listed}
use Rattle.oct_ops.specs.OrderLaws.{op_cmp_exact, op_cmp_total}
use Rattle.oct_ops.specs.SetLaws.{listed-empty}
use Rattle.oct_pages.specs.Catalogue.{blocks_of}
use Rattle.oct_pages.specs.HeldBlocks.{lines_by}
use Rattle.oct_pages.proofs.SheetLaws.{group_held}
use Rattle.oct_pages.proofs.making_ready.held_blocks.Goals as goal

pub invariant_of-result : goal.invariant_of-result
invariant_of-result g c = record {
  held = group_held c.args.said.now.ops c.args.code c.args.game c.in-Some.ops.now c.requires.built c.in-Some.ensures;
  first = c.requires.first;
}

pub returns-in-None : goal.returns-in-None
returns-in-None g c =
    let game = c.args.game in
    ap (λ ops. lines_by game (blocks_of game.code ops)) (sym (listed-empty op_cmp_total op_cmp_exact)) ∙ ap (λ held. lines_by game (blocks_of game.code (listed held))) c.in-None.ensures
