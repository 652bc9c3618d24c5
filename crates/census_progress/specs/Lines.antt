-- The line that says how far a command is.
use Rattle.std.specs.Prelude.{ℕ, ◌+◌, ◌*◌, ◌/◌, ◌%◌, min, ◌==◌, ◌||◌, nat_le, nat_lt, [], ◌∷◌, ◌++◌, codes, if◌then◌else◌}
use Rattle.oct_code.specs.Code.{Code}
use Rattle.oct_code.specs.CodeText.{code_text}
use Rattle.oct_text.specs.Words.{Text, labelled}
use Rattle.census_progress.specs.declared.line_text.Pace.{Pace}
use Rattle.census_progress.specs.declared.line_text.Work.{Work}
use Rattle.census_progress.specs.declared.line_text.Work.TheVariants.{Values, Turn, Games, Files}

-- how often the second number goes into the first, rounded up
abbrev pub times : ℕ → ℕ → ℕ
times x y = x / y + min 1 (x % y)

-- how many are done a second, where some are
abbrev pub rate_text : Pace → Text
rate_text pace =
    if (pace.done == 0) || (pace.passed == 0) then []
    else labelled (codes ", ") (pace.done * 1000 / pace.passed) ++ codes " a second"

-- so many seconds are left: in whole minutes, hours or days, rounded up, where that is more than two of them
abbrev pub time_text : ℕ → Text
time_text seconds =
    if nat_le seconds 120 then labelled (codes ", ") seconds ++ codes " s left"
    else (if nat_le seconds 7200 then labelled (codes ", ") (times seconds 60) ++ codes " min left"
    else (if nat_le seconds 172800 then labelled (codes ", ") (times seconds 3600) ++ codes " h left"
    else labelled (codes ", ") (times seconds 86400) ++ codes " d left"))

-- how long the rest takes at this pace, rounded up to seconds, once it went on for a second and some are done
abbrev pub left_text : Pace → Text
left_text pace =
    if (pace.done == 0) || nat_lt pace.passed 1000 then []
    else time_text (times (pace.rest * pace.passed) (pace.done * 1000))

-- how many values of a game are known, of how many that are wanted
abbrev pub values_text : Code → ℕ → ℕ → Text
values_text c known wanted = code_text c ++ labelled (codes " ") known ++ labelled (codes " of ") wanted

-- what is worked on, and how many are done a second where it is values
abbrev pub work_text : Work → Pace → Text
work_text (Values c known wanted) pace = values_text c known wanted ++ rate_text pace
work_text (Turn c known wanted number all) pace = values_text c known wanted ++ labelled (codes ", game ") number ++ labelled (codes " of ") all
work_text (Games c done all) pace = codes "games " ++ code_text c ++ labelled (codes ", ") done ++ labelled (codes " of ") all
work_text (Files number all) pace = labelled (codes "file ") number ++ labelled (codes " of ") all

-- it stands in place of what stood on the line of the terminal before: a carriage return, the text, and ESC [ K
abbrev pub line_text : Work → Pace → Text
line_text work pace = (13 ∷ []) ++ work_text work pace ++ left_text pace ++ (27 ∷ 91 ∷ 75 ∷ [])
