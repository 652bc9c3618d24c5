-- The lines of the wrong values of a b-file, as texts alone.
use Rattle.std.specs.Prelude.{◌≡◌, ℕ, ◌+◌, ◌-◌, ◌==◌, nat_lt, List, [], ◌∷◌, ◌++◌, length, take, codes, if◌then◌else◌}
use Rattle.std.specs.List.{flat_map}
use Rattle.oct_code.specs.Code.{Code}
use Rattle.oct_mex.specs.NimValues.{nim_value}
use Rattle.oct_text.specs.Words.{Text, labelled}
use Rattle.census_judge.specs.Checking.{correction_text, more_text, right_text}
use Rattle.page.specs.declared.checking.TheConstants.{SHOWN}

-- the line of a value that is not the nim-value of its heap
abbrev pub line_of : ℕ → ℕ → ℕ → Text
line_of heap claimed right = labelled (codes "heap ") heap ++ labelled (codes ": ") claimed ++ correction_text right

-- the lines of the claimed values of the heaps from `heap` on that are not their nim-values
abbrev pub wrong_lines : Code → ℕ → List ℕ → List Text
wrong_lines c heap [] = []
wrong_lines c heap (claimed ∷ rest) =
    if claimed == nim_value c heap then wrong_lines c (heap + 1) rest
    else line_of heap claimed (nim_value c heap) ∷ wrong_lines c (heap + 1) rest

-- lines one after another
abbrev pub joined : List Text → Text
joined lines = flat_map (λ line. line) lines

-- of so many values these are the lines of the wrong ones
abbrev pub checked_lines : ℕ → List Text → Text
checked_lines count lines =
    if length lines == 0 then right_text count
    else (if nat_lt SHOWN (length lines) then joined (take SHOWN lines) ++ more_text (length lines - SHOWN)
    else joined lines)

-- so many lines there are, and the first of them were appended
pub record IsSeen (lines : List Text) (old new : Text) (count : ℕ) : Type 0 where
  pub text : new ≡ old ++ joined (take SHOWN lines)
  pub count_is : count ≡ length lines
