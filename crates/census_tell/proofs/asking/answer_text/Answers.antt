use Rattle.census_tell.proofs.Moves.{is_within}
use Rattle.census_tell.proofs.asking.answer_text.Goals as goal

pub move_text-requires : goal.move_text-requires
move_text-requires c = is_within c.args.game.now.code c.in-Move.heaps.now c.winning_move.result c.winning_move.ensures.play
