use Rattle.std.proofs.Common.{sym, ap, ◌∙◌}
use Rattle.std.proofs.lemmas.List.{drop_all}
use Rattle.oct_ops.specs.Operations.{union}
use Rattle.oct_ops.specs.OrderLaws.{op_cmp_total, op_cmp_exact}
use Rattle.oct_ops.specs.SetLaws.{union-empty}
use Rattle.census_state.specs.Alone.{only_of}
use Rattle.census_state.proofs.Rounds.{next_item}
use Rattle.census_state.proofs.Rounds.{from_none}
use Rattle.census_state.proofs.SomeGames.{game_taken}
use Rattle.census_state.proofs.alone.games_alone.Goals as goal

pub loop-code-init : goal.loop-code-init
loop-code-init c = from_none c.new-part.result _ c.new-part.ensures

pub loop-code-preserved : goal.loop-code-preserved
loop-code-preserved c =
    game_taken c.args.named.now c.loop-code.code-index c.code-item.result c.args.held.now.ops c.loop-code.part c.take_game.new.part
    (next_item c.args.named.now c.loop-code.code-index c.code-item.result c.loop-code-test.true c.code-item.is) c.in_ok-take_game.ensures c.loop-code.invariant

pub returns : goal.returns
returns c =
    sym (union-empty op_cmp_total op_cmp_exact c.loop-code.part)
    ∙ ap (λ rest. union c.loop-code.part (only_of rest c.args.held.now.ops)) (sym (drop_all c.loop-code.code-index c.args.named.now c.loop-code-test.false))
    ∙ c.loop-code.invariant
