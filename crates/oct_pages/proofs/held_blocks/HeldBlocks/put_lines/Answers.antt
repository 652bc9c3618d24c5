use Rattle.std.proofs.Common.{◌≡◌, true, Some, ◌++◌, sym, ap, ◌∙◌, subst}
use Rattle.std.specs.List.{concat, cons_option, list_all}
use Rattle.oct_ops.specs.Sets.{contains}
use Rattle.oct_period.specs.Claims.{claims_in}
use Rattle.oct_verify.specs.Filing.{blocks_in}
use Rattle.written.proofs.Piecewise.{IsUnderway}
use Rattle.oct_pages.specs.Catalogue.{block_in, block_of_game, blocks_of, under}
use Rattle.oct_pages.specs.HeldBlocks.{held_lines, lines_by}
use Rattle.oct_pages.specs.Sheet.{block_row, block_row_text}
use Rattle.oct_pages.proofs.Flowing.{cut_off, passed, whatever}
use Rattle.oct_pages.proofs.GameParts.{held_rest}
use Rattle.oct_pages.proofs.held_blocks.HeldBlocks.put_lines.Goals as goal

pub loop-op-preserved-in-Continue-1 : goal.loop-op-preserved-in-Continue-1
loop-op-preserved-in-Continue-1 g c =
    let game = c.args.self.now.game in
    let code = c.code-code.result in
    let op = c.in-Some.op.now in
    let block = c.in-Some-block_of_game.block.now in
    let rest = c.next.new.self in
    let left = concat (lines_by game (blocks_of code rest)) in
    let here : Some block ≡ block_of_game code op.body = c.in-Some-block_of_game.ensures ∙ ap (block_of_game code) c.body.ensures.value in
    let made = c.row-row.ensures ∙ (λ i. block_row (blocks_in game.blocks) (claims_in game.claims) (c.dot.ensures.value i, block)) in
    let split = ap (λ ops. concat (lines_by game (blocks_of code ops))) c.in-Some.ensures.steps ∙ ap (λ o. concat (lines_by game (cons_option (under op.dot o) (blocks_of code rest)))) (sym here)
    ∙ ap (λ row. block_row_text row ++ left) (sym made) in
    let old = g.W.Write.contents c.args.out.now in
    let now = g.W.Write.contents c.loop-op.out in
    let text = c.args.piece.now.items ++ concat (held_lines c.args.self.now) in
    record {
      underway = passed old now _ text c.loop-op.piece.items (block_row_text c.row-row.result) left _ (subst (IsUnderway old now text c.loop-op.piece.items) split c.loop-op.invariant.underway) c.in_ok-put_block_row.ensures.ok;
      held = held_rest (contains game.blocks) (block_in code op) (blocks_of code rest)
          (subst (λ ops. list_all (contains game.blocks) (blocks_of code ops) ≡ true) c.in-Some.ensures.steps c.loop-op.invariant.held);
    }

pub returns-in_err-put_block_row-clause-err : goal.returns-in_err-put_block_row-clause-err
returns-in_err-put_block_row-clause-err g c =
    let game = c.args.self.now.game in
    let code = c.code-code.result in
    let op = c.in-Some.op.now in
    let block = c.in-Some-block_of_game.block.now in
    let rest = c.next.new.self in
    let left = concat (lines_by game (blocks_of code rest)) in
    let here : Some block ≡ block_of_game code op.body = c.in-Some-block_of_game.ensures ∙ ap (block_of_game code) c.body.ensures.value in
    let made = c.row-row.ensures ∙ (λ i. block_row (blocks_in game.blocks) (claims_in game.claims) (c.dot.ensures.value i, block)) in
    let split = ap (λ ops. concat (lines_by game (blocks_of code ops))) c.in-Some.ensures.steps ∙ ap (λ o. concat (lines_by game (cons_option (under op.dot o) (blocks_of code rest)))) (sym here)
    ∙ ap (λ row. block_row_text row ++ left) (sym made) in
    let old = g.W.Write.contents c.args.out.now in
    let now = g.W.Write.contents c.loop-op.out in
    let text = c.args.piece.now.items ++ concat (held_lines c.args.self.now) in
    whatever c.from_residual.result (cut_off old now _ text c.loop-op.piece.items (block_row_text c.row-row.result) left (subst (IsUnderway old now text c.loop-op.piece.items) split c.loop-op.invariant.underway) c.in_err-put_block_row.ensures.err)
