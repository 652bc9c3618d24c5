-- What a further search says of the period of a note.
use Rattle.std.specs.Prelude.{◌≡◌, ℕ, ◌+◌, ◌*◌, ◌==◌, ◌≤◌, nat_le, Bool, true, false, ◌&&◌, List, ◌++◌, codes, Option, Some, None, if◌then◌else◌}
use Rattle.oct_code.specs.Code.{Code, len}
use Rattle.oct_code.specs.CodeText.{code_text}
use Rattle.oct_mex.specs.declared.period.SeenPeriod.{SeenPeriod}
use Rattle.oct_ops.specs.Operation.{Dot}
use Rattle.oct_search.specs.Found.{IsFound}
use Rattle.oct_search.specs.declared.error.SearchError.{SearchError}
use Rattle.oct_search.specs.declared.error.SearchError.TheVariants.{OutOfMemory, PastValue}
use Rattle.oct_search.specs.declared.search.TheConstants.{MOST}
use Rattle.oct_text.specs.Words.{Text, dot_text, labelled}
use Rattle.oct_window.specs.Seeking.{IsPast}
use Rattle.oct_said.specs.Lines.{period_text}
use Rattle.oct_proved.specs.Periods.{with_period}
use Rattle.oct_proved.specs.declared.periods.ProvedPeriod.{ProvedPeriod}
use Rattle.oct_said.specs.declared.noting.PeriodNote.{PeriodNote}

-- how many nim-values show the period by themselves
abbrev pub needs : Code → SeenPeriod → ℕ
needs c said = 2 * said.start + 2 * said.period + len c

-- if a search computes so many
abbrev pub needed : Code → SeenPeriod → Option ℕ
needed c said = if nat_le (needs c said) MOST then Some (needs c said) else None

abbrev pub is_same : Option SeenPeriod → SeenPeriod → Bool
is_same None said = false
is_same (Some seen) said = (seen.start == said.start) && (seen.period == said.period)

-- ---- lines

abbrev pub silent_line : Dot → Text
silent_line d = codes "note " ++ dot_text d ++ codes " says no period\n"

abbrev pub far_line : Code → SeenPeriod → Text
far_line c said = period_text c said ++ labelled (codes " needs more than ") MOST ++ codes " values\n"

-- it is so, or else the period that is not so
abbrev pub end_words : Bool → Text → SeenPeriod → Text
end_words true label said = codes " is so\n"
end_words false label said = labelled label said.period ++ labelled (codes " from ") said.start ++ codes "\n"

abbrev pub told_line : Code → Option SeenPeriod → ℕ → SeenPeriod → Text
told_line c (Some seen) values said = period_text c seen ++ end_words (is_same (Some seen) said) (codes ", and not ") said
told_line c None values said = code_text c ++ labelled (codes " no period in ") values ++ end_words false (codes " values, and not period ") said

-- ---- what is said

-- the least period that the first nim-values of the game show, at most `count` of them, or that `count` show none; and whether it is the one that is said
pub record IsSearchedFor (c : Code) (count : ℕ) (said : SeenPeriod) (is_so : Bool) (line : Text) : Type 0 where
  pub found : Option SeenPeriod
  pub values : ℕ
  pub few : values ≤ count
  pub all : found ≡ None → values ≡ count
  pub least : IsFound c values found
  pub so : is_so ≡ is_same found said
  pub told : line ≡ told_line c found values said

abbrev pub IsRecheckedBy : Code → SeenPeriod → Option ℕ → Bool → Text → Type 0
IsRecheckedBy c said None is_so line = (is_so ≡ false) × (line ≡ far_line c said)
IsRecheckedBy c said (Some count) is_so line = IsSearchedFor c count said is_so line

abbrev pub IsSaidBy : PeriodNote → Option SeenPeriod → Bool → Text → Type 0
IsSaidBy note None is_so line = (is_so ≡ false) × (line ≡ silent_line note.dot)
IsSaidBy note (Some said) is_so line = IsRecheckedBy note.code said (needed note.code said) is_so line

abbrev pub IsRechecked : PeriodNote → Bool → Text → Type 0
IsRechecked note is_so line = IsSaidBy note note.said is_so line

-- the periods that are proved, with that of the note where it is so
abbrev pub with_said : List ProvedPeriod → Code → Bool → Option SeenPeriod → List ProvedPeriod
with_said proved c is_so None = proved
with_said proved c true (Some said) = with_period proved c said
with_said proved c false (Some said) = proved

abbrev pub with_rechecked : List ProvedPeriod → PeriodNote → Bool → List ProvedPeriod
with_rechecked proved note is_so = with_said proved note.code is_so note.said

-- ---- faults

abbrev pub IsSearchFault : Code → ℕ → SearchError → Type 0
IsSearchFault c count OutOfMemory = Unit {0}
IsSearchFault c count PastValue = IsPast c count

-- a nim-value above 65,535 comes only before the end of what the note's period needs
abbrev pub IsFaultBy : Code → Option SeenPeriod → SearchError → Type 0
IsFaultBy c said OutOfMemory = Unit {0}
IsFaultBy c None PastValue = ⊥
IsFaultBy c (Some said) PastValue = IsPast c (needs c said)

abbrev pub IsRecheckFault : PeriodNote → SearchError → Type 0
IsRecheckFault note e = IsFaultBy note.code note.said e
