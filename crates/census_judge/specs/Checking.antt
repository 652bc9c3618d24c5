-- How the values of a b-file compare with the nim-values of a game.
use Rattle.std.specs.Prelude.{ℕ, ◌+◌, ◌-◌, ◌==◌, nat_lt, List, [], ◌∷◌, ◌++◌, length, take, codes, Result, Ok, if◌then◌else◌}
use Rattle.std.specs.List.{flat_map}
use Rattle.oct_code.specs.Code.{Code}
use Rattle.oct_delta.specs.Text.{Bytes}
use Rattle.oct_mex.specs.NimValues.{nim_value}
use Rattle.oct_text.specs.Words.{Text, labelled}
use Rattle.oct_bfile.specs.Bfile.{Bfile, bfile_of}
use Rattle.census_state.specs.Codes.{code_of}
use Rattle.census_state.specs.Steps.{◌>>=◌, because}
use Rattle.census_judge.specs.declared.checking.TheConstants.{SHOWN}
use Rattle.census_judge.specs.declared.checking.Wrong.{Wrong}
use Rattle.census_state.specs.declared.fault.Fault.{Fault}
use Rattle.census_state.specs.declared.fault.Fault.TheVariants as fault

-- the claimed values of the heaps from `heap` on that are not their nim-values
abbrev pub wrong_values : Code → ℕ → List ℕ → List Wrong
wrong_values c heap [] = []
wrong_values c heap (claimed ∷ rest) =
    if claimed == nim_value c heap then wrong_values c (heap + 1) rest
    else record { heap = heap; claimed = claimed; right = nim_value c heap } ∷ wrong_values c (heap + 1) rest

-- ---- what is printed

abbrev pub correction_text : ℕ → Text
correction_text right = labelled (codes " in the file, ") right ++ codes " is right\n"

abbrev pub wrong_line : Wrong → Text
wrong_line wrong = labelled (codes "heap ") wrong.heap ++ labelled (codes ": ") wrong.claimed ++ correction_text wrong.right

-- so many wrong values are not shown
abbrev pub more_text : ℕ → Text
more_text count = labelled (codes "and ") count ++ codes " more\n"

-- so many values are right, and no other
abbrev pub right_text : ℕ → Text
right_text count = labelled [] count ++ codes " values, all right\n"

-- of so many values these are wrong
abbrev pub checked_text : ℕ → List Wrong → Text
checked_text count wrong =
    if length wrong == 0 then right_text count
    else (if nat_lt SHOWN (length wrong) then flat_map wrong_line (take SHOWN wrong) ++ more_text (length wrong - SHOWN)
    else flat_map wrong_line wrong)

-- ---- the command

-- how many values are wrong, and the text that says so
pub record Verdict : Type 0 where
  pub wrong : ℕ
  pub text : Text

abbrev pub verdict : Code → Bfile → Verdict
verdict c file =
    let wrong = wrong_values c file.start file.values in
    record { wrong = length wrong; text = checked_text (length file.values) wrong }

abbrev pub check : Bytes → Bytes → Result Verdict Fault
check word bytes = do
  code ← code_of word
  file ← because fault.Bfile (bfile_of bytes)
  Ok (verdict code file)
