use Rattle.std.proofs.Common.{◌≡◌, Ok, arith, ap, sym, ◌∙◌}
use Rattle.oct_mex.specs.NimValues.{position_value as nim_sum}
use Rattle.oct_period.specs.Moving.{winning_move_by}
use Rattle.oct_period.proofs.Afters.{answers, none_at_zero}
use Rattle.oct_reach.proofs.Told.{all_told}
use Rattle.oct_reach.proofs.move_search.winning_move.Goals as goal

pub first_move-requires-clause-told : goal.first_move-requires-clause-told
first_move-requires-clause-told g c = all_told c.args.game.now.code c.args.game.now.len c.args.found 0 c.args.heaps.now c.in-Ok.total c.in-Ok.ensures.value

pub returns-in-Ok-eq0-clause-value : goal.returns-in-Ok-eq0-clause-value
returns-in-Ok-eq0-clause-value g c =
    let none : nim_sum c.args.game.now.code c.args.heaps.now ≡ 0 = omega (arith, c.in-Ok-eq0.ensures.right) in
    ap Ok (sym (none_at_zero c.args.game.now.code c.args.heaps.now none)) ∙ ap (winning_move_by c.args.game.now.code c.args.heaps.now) c.in-Ok-eq0.ensures.value

pub returns-in-Ok-clause-play : goal.returns-in-Ok-clause-play
returns-in-Ok-clause-play g c = answers c.args.game.now.code c.args.heaps.now c.first_move.result c.first_move.ensures
