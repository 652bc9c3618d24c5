-- What a search prints of a game: as lines, or as one line of JSON.
use Rattle.std.specs.Prelude.{ℕ, List, [], ◌∷◌, ◌++◌, codes, Option, Some, None}
use Rattle.std.specs.List.{flat_map}
use Rattle.oct_code.specs.Code.{Code}
use Rattle.oct_code.specs.CodeText.{code_text}
use Rattle.oct_mex.specs.declared.period.SeenPeriod.{SeenPeriod}
use Rattle.oct_ops.specs.Operation.{repeating}
use Rattle.oct_text.specs.Words.{Text, labelled}
use Rattle.oct_period.specs.Periods.{needs}
use Rattle.oct_reach.specs.Reaching.{value_told}
use Rattle.oct_text.specs.declared.form.Form.{Form}
use Rattle.oct_text.specs.declared.form.Form.TheVariants.{Lines, Json}
use Rattle.census_state.specs.PeriodTexts.{found_text, vain_line}

-- ---- lines

-- the period, the heap from which on it holds, how many nim-values prove it, and how many were computed
abbrev pub period_words : Code → SeenPeriod → ℕ → Text
period_words c seen values = code_text c ++ found_text (repeating c seen.start seen.period) ++ labelled (codes " values ") values

abbrev pub period_line : Code → SeenPeriod → ℕ → Text
period_line c seen values = period_words c seen values ++ codes "\n"

abbrev pub game_line : Code → Option SeenPeriod → ℕ → Text
game_line c (Some seen) values = period_line c seen values
game_line c None values = vain_line c values

abbrev pub value_text : Option ℕ → Text
value_text (Some value) = labelled (codes " value ") value
value_text None = codes " not known"

-- the nim-value of a heap
abbrev pub heap_line : Code → ℕ → Option ℕ → Text
heap_line c heap value = code_text c ++ labelled (codes " at ") heap ++ value_text value ++ codes "\n"

abbrev pub told_line : Code → Option SeenPeriod → ℕ → ℕ → Text
told_line c found values heap = heap_line c heap (value_told c found values heap)

-- the line of the game, and then one for each heap that is asked for
abbrev pub lines_text : Code → Option SeenPeriod → ℕ → List ℕ → Text
lines_text c found values heaps = game_line c found values ++ flat_map (told_line c found values) heaps

-- ---- JSON

-- the end of the code, the period, the heap from which on it holds, and how many nim-values prove it
abbrev pub period_members : Code → SeenPeriod → Text
period_members c seen =
    labelled (codes "\",\"period\":") seen.period ++ labelled (codes ",\"from\":") seen.start
    ++ labelled (codes ",\"needs\":") (needs (repeating c seen.start seen.period))

-- the period is null where none is found
abbrev pub found_members : Code → Option SeenPeriod → Text
found_members c (Some seen) = period_members c seen
found_members c None = codes "\",\"period\":null"

abbrev pub value_member : Option ℕ → Text
value_member (Some value) = labelled (codes ",\"value\":") value
value_member None = codes ",\"value\":null"

-- a heap and its nim-value, behind what separates it from what stands before
abbrev pub heap_object : Code → Option SeenPeriod → ℕ → Text → ℕ → Text
heap_object c found values separator heap = separator ++ labelled (codes "{\"heap\":") heap ++ value_member (value_told c found values heap) ++ codes "}"

-- none where no heap is asked for
abbrev pub heaps_member : Code → Option SeenPeriod → ℕ → List ℕ → Text
heaps_member c found values [] = []
heaps_member c found values (heap ∷ heaps) =
    heap_object c found values (codes ",\"at\":[") heap ++ flat_map (heap_object c found values (codes ",")) heaps ++ codes "]"

-- the same in one object
abbrev pub json_text : Code → Option SeenPeriod → ℕ → List ℕ → Text
json_text c found values heaps =
    codes "{\"code\":\"" ++ code_text c ++ found_members c found ++ labelled (codes ",\"values\":") values ++ heaps_member c found values heaps ++ codes "}\n"

abbrev pub search_text : Form → Code → Option SeenPeriod → ℕ → List ℕ → Text
search_text Lines = lines_text
search_text Json = json_text
