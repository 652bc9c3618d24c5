use Rattle.std.proofs.Common.{◌≡◌, Ok, arith, ap, sym, ◌∙◌}
use Rattle.oct_mex.specs.NimValues.{position_value as nim_sum}
use Rattle.oct_verify.specs.Filing.{blocks_in}
use Rattle.oct_period.specs.Moving.{winning_move_by}
use Rattle.oct_period.proofs.Afters.{answers, none_at_zero}
use Rattle.oct_period.proofs.HeapValues.{all_reached}
use Rattle.oct_period.proofs.move_search.winning_move_by.Goals as goal

pub first_move-requires-clause-reached : goal.first_move-requires-clause-reached
first_move-requires-clause-reached g c = all_reached c.args.ledger.now.code (blocks_in c.args.ledger.now.blocks) c.args.claim.now 0 c.args.heaps.now c.in-Ok.total c.in-Ok.ensures.value

pub returns-in-Ok-eq0-clause-value : goal.returns-in-Ok-eq0-clause-value
returns-in-Ok-eq0-clause-value g c =
    let none : nim_sum c.args.ledger.now.code c.args.heaps.now ≡ 0 = omega (arith, c.in-Ok-eq0.ensures.right) in
    ap Ok (sym (none_at_zero c.args.ledger.now.code c.args.heaps.now none)) ∙ ap (winning_move_by c.args.ledger.now.code c.args.heaps.now) c.in-Ok-eq0.ensures.value

pub returns-in-Ok-clause-play : goal.returns-in-Ok-clause-play
returns-in-Ok-clause-play g c = answers c.args.ledger.now.code c.args.heaps.now c.first_move.result c.first_move.ensures
