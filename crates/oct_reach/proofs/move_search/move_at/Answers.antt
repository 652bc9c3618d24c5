use Rattle.std.proofs.Common.{suc, arith, ap, sym, ◌∙◌}
use Rattle.oct_code.specs.Code.{len}
use Rattle.oct_period.specs.Moving.{has_value, moves_removing}
use Rattle.oct_period.specs.declared.moving.Move.{Move}
use Rattle.oct_period.proofs.Finding.{find-lists_none, lists_found, none_before, none_if}
use Rattle.oct_reach.proofs.move_search.move_at.Goals as goal

pub returns-then-is_some : goal.returns-then-is_some
returns-then-is_some g c =
    let game = c.args.game.now in
    lists_found (λ (m : Move). has_value game.code c.args.wanted m.left) (moves_removing game.code c.args.index c.args.heap) (suc (len game.code)) c.loop-removed.removed c.move_removing-answer.result
    (omega (arith, c.loop-removed-test.true, c.len-removed-end.ensures.value, ap len c.code.ensures)) c.move_removing-answer.ensures (sym c.is_some.ensures ∙ c.if-is_some.true) c.loop-removed.invariant

pub loop-removed-preserved : goal.loop-removed-preserved
loop-removed-preserved g c =
    let game = c.args.game.now in
    none_before (λ (m : Move). has_value game.code c.args.wanted m.left) (moves_removing game.code c.args.index c.args.heap) c.loop-removed.removed c.loop-removed.invariant
    (sym c.move_removing-answer.ensures ∙ none_if c.move_removing-answer.result (sym c.is_some.ensures ∙ c.if-is_some.false))

pub returns : goal.returns
returns g c =
    let game = c.args.game.now in
    sym (find-lists_none (λ (m : Move). has_value game.code c.args.wanted m.left) (moves_removing game.code c.args.index c.args.heap) 0 (suc (len game.code))
    (λ k _ low. c.loop-removed.invariant k (omega (arith, c.loop-removed-test.false, c.len-removed-end.ensures.value, ap len c.code.ensures, low))))
