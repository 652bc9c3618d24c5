use Rattle.std.proofs.Common.{◌≡◌, ◌-◌, true, Some, arith, ◌++◌, map, length, sym, ap, ◌∙◌, subst}
use Rattle.std.specs.List.{list_all}
use Rattle.oct_ops.specs.Operations.{listed}
use Rattle.oct_ops.specs.Sets.{contains}
use Rattle.oct_pages.proofs.GameParts.{held_rest}
use Rattle.oct_pages.specs.Catalogue.{block_in, block_of_game, blocks_of, under}
use Rattle.oct_period.specs.Claims.{claims_in}
use Rattle.oct_verify.specs.Filing.{blocks_in}
use Rattle.oct_pages.specs.Sheet.{block_row}
use Rattle.oct_pages.proofs.Pushing.{one_pushed}
use Rattle.oct_pages.proofs.statuses.block_rows.Goals as goal

pub loop-op-preserved-in-Continue-1 : goal.loop-op-preserved-in-Continue-1
loop-op-preserved-in-Continue-1 g c =
    let code = c.code-code.result in
    let op = c.in-Some.op.now in
    let block = c.in-Some-block_of_game.block.now in
    let row = block_row (blocks_in c.args.game.now.blocks) (claims_in c.args.game.now.claims) in
    let rest = blocks_of code c.next.new.self in
    let here : Some block ≡ block_of_game code op.body = c.in-Some-block_of_game.ensures ∙ ap (block_of_game code) c.body.ensures.value in
    let count : c.end.result - c.start-start.result ≡ length block.values = omega (arith, c.end.ensures.value, c.start-start.ensures.value) in
    record {
      rows = one_pushed row (block_in code op) (op.dot, block) _ rest c.loop-op.rows.items _ (map row (blocks_of code (listed c.args.ops.now))) (ap (under op.dot) here)
          (λ i. record { dot = c.dot-dot.ensures.value i; start = c.start-start.ensures.value i; count = count i; status = c.block_status_by-status.ensures i }) c.in_ok-push.ensures.items
          (ap (λ ops. c.loop-op.rows.items ++ map row (blocks_of code ops)) (sym c.in-Some.ensures.steps) ∙ c.loop-op.invariant.rows);
      held = held_rest (contains c.args.game.now.blocks) (block_in code op) rest
          (subst (λ ops. list_all (contains c.args.game.now.blocks) (blocks_of code ops) ≡ true) c.in-Some.ensures.steps c.loop-op.invariant.held);
    }
