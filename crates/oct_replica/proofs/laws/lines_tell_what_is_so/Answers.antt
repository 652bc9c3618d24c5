use Rattle.oct_replica.proofs.Shown.{game_lines_are_so, lines_are_so}
use Rattle.oct_replica.proofs.laws.lines_tell_what_is_so.Goals as goal

pub returns : goal.returns
returns c = record { games = game_lines_are_so; all = lines_are_so }
