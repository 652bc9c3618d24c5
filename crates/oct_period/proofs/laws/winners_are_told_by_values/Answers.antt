use Rattle.oct_period.proofs.Play as play
use Rattle.oct_period.proofs.laws.winners_are_told_by_values.Goals as goal

pub returns : goal.returns
returns c = record { moves = play.next_player_wins; value = play.wins_above_zero; outcome = play.outcome_is_by_value }
