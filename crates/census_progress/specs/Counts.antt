-- What is counted, and how fast it goes on.
use Rattle.std.specs.Prelude.{ℕ, ◌+◌, ◌-◌, ◌==◌, ◌&&◌, Bool, true, false, nat_le, Option, Some, None, if◌then◌else◌}
use Rattle.oct_code.specs.Code.{Code, code_eq}
use Rattle.census_progress.specs.declared.count.Count.{Count}
use Rattle.census_progress.specs.declared.count.Turns.{Turns}
use Rattle.census_progress.specs.declared.line_text.Pace.{Pace}
use Rattle.census_progress.specs.declared.line_text.Work.{Work}
use Rattle.census_progress.specs.declared.line_text.Work.TheVariants.{Values, Turn, Games, Files}

-- the nim-values of a game; of games that have their turns, those whose turn is over; of files, those before the one that is next
abbrev pub count_of : Work → Count
count_of (Values c known wanted) = record { code = Some c; done = known; all = wanted }
count_of (Turn c known wanted number all) = record { code = None; done = number - 1; all = all }
count_of (Games c done all) = record { code = None; done = done; all = all }
count_of (Files number all) = record { code = None; done = number - 1; all = all }

-- both count the nim-values of this game, or neither counts nim-values
abbrev pub is_same : Option Code → Option Code → Bool
is_same None None = true
is_same (Some c) (Some d) = code_eq c d
is_same _ _ = false

-- a later count goes on from a first one: of the same game, of as many, and of no fewer
abbrev pub leads_to : Count → Count → Bool
leads_to first later = is_same first.code later.code && (first.all == later.all) && nat_le first.done later.done

-- how many are done since the first count, and how many are left, where so many milliseconds passed
abbrev pub pace_to : Count → Count → ℕ → Pace
pace_to first later passed = record { done = later.done - first.done; passed = passed; rest = later.all - later.done }

-- the first turn of several games
abbrev pub turns_of : ℕ → Option Turns
turns_of games = if nat_le games 1 then None else Some (record { number = 1; all = games })

abbrev pub next_turn : Turns → Turns
next_turn turns = if nat_le turns.all turns.number then turns else record { number = turns.number + 1; all = turns.all }

-- the next one, where games have their turns
abbrev pub next_turns : Option Turns → Option Turns
next_turns None = None
next_turns (Some turns) = Some (next_turn turns)
