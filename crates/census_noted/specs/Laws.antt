-- What holds of the notes of periods.
use Rattle.std.specs.Prelude.{◌≡◌, ℕ, true, Some}
use Rattle.oct_code.specs.Code.{Code}
use Rattle.oct_mex.specs.Periods.{IsPeriodicFrom}
use Rattle.oct_mex.specs.declared.period.SeenPeriod.{SeenPeriod}
use Rattle.oct_text.specs.Words.{Text}
use Rattle.oct_window.specs.Repeats.{IsLeastPeriod}
use Rattle.census_noted.specs.Rechecking.{IsRechecked, IsSearchedFor}
use Rattle.oct_said.specs.declared.noting.PeriodNote.{PeriodNote}

-- a period of which it is said that it is so holds for every heap from its start on
abbrev pub WhatIsSoHolds : Type 0
WhatIsSoHolds = (c : Code) (count : ℕ) (said : SeenPeriod) (line : Text) → IsSearchedFor c count said true line → IsPeriodicFrom c said.start said.period

-- and where that is said of the period of a note, it is the least one of the note's game
abbrev pub WhatIsSoIsLeast : Type 0
WhatIsSoIsLeast = (note : PeriodNote) (said : SeenPeriod) (line : Text) → IsRechecked note true line → note.said ≡ Some said → IsLeastPeriod note.code said
