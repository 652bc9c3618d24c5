-- What a search in windows prints of a game: as a line, or as one line of JSON.
use Rattle.std.specs.Prelude.{ℕ, Bool, true, false, ◌+◌, ◌^◌, ◌≤◌, ◌++◌, codes}
use Rattle.oct_code.specs.Code.{Code}
use Rattle.oct_code.specs.CodeText.{code_text}
use Rattle.oct_text.specs.Words.{Text, labelled}
use Rattle.oct_text.specs.declared.form.Form.{Form}
use Rattle.oct_text.specs.declared.form.Form.TheVariants.{Lines, Json}
use Rattle.oct_window.specs.declared.sought.Sought.{Sought}
use Rattle.oct_window.specs.declared.sought.Sought.TheVariants.{Least, Unshown, Unseen}
use Rattle.census_state.specs.PeriodTexts.{vain_words}
use Rattle.census_search.specs.SearchTexts.{period_members, period_words}

-- no window that was marked came again in so many nim-values
abbrev pub unseen_words : Code → ℕ → Text
unseen_words c values = code_text c ++ labelled (codes " no period seen in ") values ++ codes " values"

abbrev pub sought_words : Code → Sought → Text
sought_words c (Least seen values) = period_words c seen values
sought_words c (Unshown values) = vain_words c values
sought_words c (Unseen values listed) = unseen_words c values

-- the line says where the search was taken up again
abbrev pub line_end : Bool → Text
line_end true = codes " from a saved search\n"
line_end false = codes "\n"

abbrev pub sought_line : Bool → Code → Sought → Text
sought_line resumed c sought = sought_words c sought ++ line_end resumed

-- the end of the code, and the members behind it
abbrev pub sought_members : Code → Sought → Text
sought_members c (Least seen values) = period_members c seen ++ labelled (codes ",\"values\":") values
sought_members c (Unshown values) = labelled (codes "\",\"period\":null,\"values\":") values
sought_members c (Unseen values listed) = labelled (codes "\",\"period\":null,\"values\":") values ++ codes ",\"unseen\":true"

abbrev pub object_end : Bool → Text
object_end true = codes ",\"saved\":true}\n"
object_end false = codes "}\n"

abbrev pub sought_object : Bool → Code → Sought → Text
sought_object resumed c sought = codes "{\"code\":\"" ++ code_text c ++ sought_members c sought ++ object_end resumed

-- of a search that was taken up again, or of one from the beginning
abbrev pub sought_text : Form → Bool → Code → Sought → Text
sought_text Lines = sought_line
sought_text Json = sought_object

-- the numbers of a period are not too great to say how many nim-values prove it
abbrev pub IsWritable : Sought → Type 0
IsWritable (Least seen values) = seen.start + seen.period ≤ 2 ^ 60
IsWritable (Unshown values) = Unit {0}
IsWritable (Unseen values listed) = Unit {0}
