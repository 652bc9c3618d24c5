use Rattle.std.proofs.Common.{◌≡◌, drop}
use Rattle.census_table.specs.LinePlaces.{is_game}
use Rattle.census_table.proofs.line_place.is_game.Given as goal

abbrev pub invariant-loop-i : goal.invariant-loop-i
invariant-loop-i l = is_game l.lines ≡ is_game (drop l.i l.lines)
