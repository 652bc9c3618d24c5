-- What holds of what notes say.
use Rattle.std.specs.Prelude.{◌≡◌, ℕ, ◌<◌, ◌^◌, ◌∷◌, ◌++◌, Some}
use Rattle.oct_code.specs.Code.{Code, IsCode}
use Rattle.oct_mex.specs.declared.period.SeenPeriod.{SeenPeriod}
use Rattle.oct_ops.specs.Operation.{Dot}
use Rattle.oct_ops.specs.Valid.{IsDot}
use Rattle.oct_text.specs.Words.{Text, dot_text}
use Rattle.oct_said.specs.Dots.{dot_said}
use Rattle.oct_said.specs.Lines.{period_text, said_by, seen_in}
use Rattle.oct_said.specs.Names.{game_named, note_name}

-- ---- what is written is read

-- the name of a game's notes is that of no other game
abbrev pub NamesAreRead : Type 0
NamesAreRead = (c : Code) → IsCode c → game_named (note_name c) ≡ Some c

abbrev pub TextsAreRead : Type 0
TextsAreRead = (c : Code) (seen : SeenPeriod) → IsCode c → seen.start < 2 ^ 64 → seen.period < 2 ^ 64 → said_by c (period_text c seen) ≡ Some seen

-- whatever stands behind a blank, as in the line of a search
abbrev pub LinesAreRead : Type 0
LinesAreRead = (c : Code) (seen : SeenPeriod) (rest : Text) → IsCode c → seen.start < 2 ^ 64 → seen.period < 2 ^ 64 → seen_in (period_text c seen ++ 32 ∷ rest) ≡ Some seen

-- the text of a dot says it, where its author does
abbrev pub DotsAreRead : Type 0
DotsAreRead = (d : Dot) → IsDot d → dot_said d.author (dot_text d) ≡ Some d

-- ---- what is read was written

abbrev pub ReadNamesAreWritten : Type 0
ReadNamesAreWritten = (name : Text) (c : Code) → game_named name ≡ Some c → name ≡ note_name c

abbrev pub ReadTextsAreWritten : Type 0
ReadTextsAreWritten = (c : Code) (text : Text) (seen : SeenPeriod) → said_by c text ≡ Some seen → text ≡ period_text c seen

-- whoever says a dot is its author, and says it as it is written
abbrev pub ReadDotsAreWritten : Type 0
ReadDotsAreWritten = (author : ℕ) (text : Text) (d : Dot) → dot_said author text ≡ Some d → (d.author ≡ author) × (text ≡ dot_text d)
