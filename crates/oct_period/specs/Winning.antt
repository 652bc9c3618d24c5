-- Who wins a position in normal play, where the player who cannot move loses.
use Rattle.std.specs.Prelude.{ℕ, zero, suc, ◌-◌, ◌*◌, Bool, false, not, List, [], ◌∷◌, ◌++◌, map, sum_by}
use Rattle.std.specs.List.{list_any}
use Rattle.oct_code.specs.Code.{Code}
use Rattle.oct_mex.specs.Moves.{Heaps, moves}

abbrev pub Position : Type 0
Position = List ℕ

-- the positions that one move leads to: the two heaps of a move stand in place of one heap
abbrev pub positions_after : Code → Position → List Position
positions_after c [] = []
positions_after c (n ∷ heaps) =
    map (λ (m : Heaps). m.0 ∷ m.1 ∷ heaps) (moves c n)
    ++ map (λ after. n ∷ after) (positions_after c heaps)

-- the sum of 2n - 1 over the nonempty heaps, which each move lowers
abbrev pub weight : Position → ℕ
weight heaps = sum_by (λ n. 2 * n - 1) heaps

-- the player to move wins: some move leads to a position in which the player to move does not
abbrev pub wins_within : Code → ℕ → Position → Bool
wins_within c zero heaps = false
wins_within c (suc fuel) heaps = list_any (λ after. not (wins_within c fuel after)) (positions_after c heaps)

unfoldable pub wins : Code → Position → Bool
wins c heaps = wins_within c (weight heaps) heaps
