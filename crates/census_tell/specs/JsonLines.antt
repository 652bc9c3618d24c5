-- What is told of a position as one line of JSON.
use Rattle.std.specs.Prelude.{ℕ, ◌==◌, ◌++◌, [], codes, if◌then◌else◌}
use Rattle.oct_period.specs.declared.moving.Move.{Move}
use Rattle.oct_period.specs.declared.winner.Outcome.{Outcome}
use Rattle.oct_period.specs.declared.winner.Outcome.TheVariants.{NextLoses, NextWins, Unknown}
use Rattle.oct_text.specs.Words.{Text, labelled}

abbrev pub outcome_member : Outcome → Text
outcome_member NextWins = codes ",\"next_player\":\"wins\""
outcome_member NextLoses = codes ",\"next_player\":\"loses\""
outcome_member (Unknown index) = []

-- the value of a position, and who wins it
abbrev pub value_object : ℕ → Outcome → Text
value_object value outcome = labelled (codes "{\"value\":") value ++ outcome_member outcome ++ codes "}\n"

-- the place of the first heap whose nim-value is not known
abbrev pub unknown_object : ℕ → Text
unknown_object index = labelled (codes "{\"unknown\":") index ++ codes "}\n"

-- the heaps that are left: none, one, or two, the smaller one first
abbrev pub left_member : ℕ → ℕ → Text
left_member less more =
    if more == 0 then codes ",\"leave\":["
    else (if less == 0 then labelled (codes ",\"leave\":[") more
    else labelled (codes ",\"leave\":[") less ++ labelled (codes ",") more)

-- a move in a heap of so many beans
abbrev pub move_object : Move → ℕ → Text
move_object m beans =
    labelled (codes "{\"heap\":") m.index ++ labelled (codes ",\"of\":") beans ++ labelled (codes ",\"remove\":") m.removed
    ++ left_member m.left.0 m.left.1 ++ codes "]}\n"

-- no move wins
abbrev pub lost_object : Text
lost_object = codes "{\"heap\":null,\"next_player\":\"loses\"}\n"
