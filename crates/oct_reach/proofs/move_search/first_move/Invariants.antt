use Rattle.std.proofs.Common.{◌≡◌, drop, not}
use Rattle.std.specs.List.{find}
use Rattle.oct_period.specs.Moving.{first_winning_move, moves_from, position_after}
use Rattle.oct_period.specs.Winning.{wins}
use Rattle.oct_reach.proofs.move_search.first_move.Given as goal

-- the first of the moves in the heaps that are left is the first of all
abbrev pub invariant-loop-index : goal.invariant-loop-index
invariant-loop-index g l = find (λ m. not (wins l.game.code (position_after l.heaps m))) (moves_from l.game.code l.index (drop l.index l.heaps)) ≡ first_winning_move l.game.code l.heaps
