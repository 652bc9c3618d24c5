use Rattle.census_judge.specs.Decisions.{decided_in}
use Rattle.census_judge.proofs.Deciding.{one_more}
use Rattle.census_judge.proofs.decisions.decide_each.Goals as goal

pub loop-code-preserved : goal.loop-code-preserved
loop-code-preserved c =
    one_more (decided_in c.args.before.now.ops c.args.later.now.ops) c.args.codes.now c.loop-code.code-index c.code-item.result c.loop-code.all.items _ c.loop-code-test.true c.code-item.is c.loop-code.invariant c.in_ok-decide_game.ensures
