use Rattle.std.proofs.Common.{◌≡◌, true, subst}
use Rattle.std.specs.Cmp.{first_so, second_so}
use Rattle.std.specs.List.{list_all}
use Rattle.oct_ops.specs.Games.{of_code}
use Rattle.oct_ops.specs.Sets.{contains}
use Rattle.oct_pages.proofs.GameParts.{held_rest}
use Rattle.oct_pages.specs.Catalogue.{block_in, blocks_of}
use Rattle.census_judge.specs.Verdicts.{judged_op}
use Rattle.census_judge.proofs.Judging.{first_held, one_judged}
use Rattle.census_judge.proofs.verdicts.judge_ops.Goals as goal

pub judge_op-requires : goal.judge_op-requires
judge_op-requires c =
    let game = c.args.game.now in
    let op = c.in-Some.op.now in
    record {
      here = first_held (contains game.blocks) (block_in game.code op) (blocks_of game.code c.next.new.self)
          (subst (λ ops. list_all (contains game.blocks) (blocks_of game.code ops) ≡ true) c.in-Some.ensures.steps c.loop-op.invariant.held);
      of_game = first_so (of_code game.code op) (list_all (of_code game.code) c.next.new.self) (subst (λ ops. list_all (of_code game.code) ops ≡ true) c.in-Some.ensures.steps c.loop-op.invariant.each);
      first = c.proved_claim-first.ensures.value;
    }

pub loop-op-preserved : goal.loop-op-preserved
loop-op-preserved c =
    let game = c.args.game.now in
    let op = c.in-Some.op.now in
    record {
      all = one_judged (judged_op c.args.before.now.ops game) op c.next.new.self _ c.loop-op.all.items _ _ c.in-Some.ensures.steps c.in_ok-judge_op.ensures c.loop-op.invariant.all;
      held = held_rest (contains game.blocks) (block_in game.code op) (blocks_of game.code c.next.new.self)
          (subst (λ ops. list_all (contains game.blocks) (blocks_of game.code ops) ≡ true) c.in-Some.ensures.steps c.loop-op.invariant.held);
      each = second_so (of_code game.code op) (list_all (of_code game.code) c.next.new.self) (subst (λ ops. list_all (of_code game.code) ops ≡ true) c.in-Some.ensures.steps c.loop-op.invariant.each);
    }
