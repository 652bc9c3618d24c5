use Rattle.std.proofs.Common.{◌∙◌}
use Rattle.census_issue.specs.Finding.{turn_of}
use Rattle.census_issue.proofs.InTurn.{had_turn, kept_turn}
use Rattle.census_issue.proofs.surveying.turns.Goals as goal

pub loop-code-preserved : goal.loop-code-preserved
loop-code-preserved g c =
    let before = c.loop-code in
    let text = c.loop-code.text.items in
    let slice = c.deref.result.now in
    let joined = c.in_ok-extend_from_slice.ensures.items in
    record {
      turns = before.invariant.turns
          ∙ had_turn (turn_of c.args.aim c.args.count) c.args.codes.now before.code-index c.code-item.result _ before.said _ text _ slice _ c.loop-code-test.true c.code-item.is c.in_ok-line.ensures.ok c.deref.ensures.value joined;
      kept = kept_turn (turn_of c.args.aim c.args.count) c.args.codes.now before.code-index c.code-item.result _ before.said _ text _ slice _ c.loop-code-test.true c.code-item.is c.in_ok-line.ensures.ok c.deref.ensures.value joined
          g.K.TurnKeeper.keeps c.args.keeper.now before.keeper c.keep.new.self _ _ before.invariant.kept c.deref-in-loop-code.ensures.value c.in-Ok.ensures.kept;
    }
