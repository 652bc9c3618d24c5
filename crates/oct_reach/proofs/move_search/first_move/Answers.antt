use Rattle.std.proofs.Common.{arith, ap₂, bit_xor, sym, ◌∙◌}
use Rattle.oct_period.specs.Moving.{first_winning_move}
use Rattle.oct_period.proofs.Afters.{search_goes_on}
use Rattle.oct_reach.proofs.move_search.first_move.Goals as goal

pub returns-then-is_some : goal.returns-then-is_some
returns-then-is_some g c =
    let game = c.args.game.now in
    let all = first_winning_move game.code c.args.heaps.now in
    (search_goes_on game.code c.args.heaps.now c.loop-index.index _ c.move_at-answer.result all (omega arith) (ap₂ bit_xor c.requires.total c.told_value.ensures) c.move_at-answer.ensures c.loop-index.invariant).found
    (sym c.is_some.ensures ∙ c.if-is_some.true)

pub loop-index-preserved : goal.loop-index-preserved
loop-index-preserved g c =
    let game = c.args.game.now in
    let all = first_winning_move game.code c.args.heaps.now in
    (search_goes_on game.code c.args.heaps.now c.loop-index.index _ c.move_at-answer.result all (omega arith) (ap₂ bit_xor c.requires.total c.told_value.ensures) c.move_at-answer.ensures c.loop-index.invariant).goes_on
    (sym c.is_some.ensures ∙ c.if-is_some.false)
