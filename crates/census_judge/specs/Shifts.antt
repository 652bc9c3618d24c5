-- By how many heaps the values of a b-file are shifted.
use Rattle.std.specs.Prelude.{ℕ, ◌+◌, ◌-◌, ◌&&◌, ◌==◌, Bool, true, nat_le, List, [], ◌∷◌, length, Option, Some, None, Result, Ok, if◌then◌else◌}
use Rattle.oct_code.specs.Code.{Code}
use Rattle.oct_code.specs.declared.limits.TheConstants.{LIMIT}
use Rattle.oct_delta.specs.Text.{Bytes}
use Rattle.oct_mex.specs.NimValues.{nim_value}
use Rattle.oct_bfile.specs.Bfile.{bfile_of}
use Rattle.census_state.specs.Codes.{code_of}
use Rattle.census_state.specs.Steps.{◌>>=◌, because}
use Rattle.census_state.specs.declared.fault.Fault.{Fault}
use Rattle.census_state.specs.declared.fault.Fault.TheVariants as fault
use Rattle.census_judge.specs.declared.shifts.Shift.{Shift}
use Rattle.census_judge.specs.declared.shifts.Shift.TheVariants.{Early, Late}

-- whether these are the nim-values of the heaps from `heap` on
abbrev pub are_values : Code → ℕ → List ℕ → Bool
are_values c heap [] = true
are_values c heap (claimed ∷ rest) = claimed == nim_value c heap && are_values c (heap + 1) rest

-- whether each is the nim-value of the heap so many larger, which is below the limit
abbrev pub is_early : Code → ℕ → List ℕ → ℕ → Bool
is_early c start claimed by = nat_le (start + by + length claimed) LIMIT && are_values c (start + by) claimed

-- whether each is the nim-value of the heap so many smaller
abbrev pub is_late : Code → ℕ → List ℕ → ℕ → Bool
is_late c start claimed by = nat_le by start && are_values c (start - by) claimed

-- by one heap or by two, the smaller shift first
abbrev pub shift_of : Code → ℕ → List ℕ → Option Shift
shift_of c start claimed =
    if is_early c start claimed 1 then Some (Early 1)
    else (if is_late c start claimed 1 then Some (Late 1)
    else (if is_early c start claimed 2 then Some (Early 2)
    else (if is_late c start claimed 2 then Some (Late 2) else None)))

abbrev pub find_shift : Bytes → Bytes → Result (Option Shift) Fault
find_shift word bytes = do
  code ← code_of word
  file ← because fault.Bfile (bfile_of bytes)
  Ok (shift_of code file.start file.values)
