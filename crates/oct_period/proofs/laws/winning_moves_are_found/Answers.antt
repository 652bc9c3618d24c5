use Rattle.oct_period.proofs.MoveOrder as moves
use Rattle.oct_period.proofs.laws.winning_moves_are_found.Goals as goal

pub returns : goal.returns
returns c = record { moves = moves.moves_in_are_the_moves; after = moves.moves_leave_the_positions_after; none = moves.none_wins_at_zero; first = moves.none_wins_before }
