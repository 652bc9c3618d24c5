-- Codes of octal games.
use Rattle.std.specs.Prelude.{◌≡◌, ◌≢◌, ◌⊎◌, ℕ, ◌≤◌, Bool, ◌==◌, List, ◌∷◌, length, slice_index}
use Rattle.std.specs.List.{All}
use Rattle.std.specs.Prelude.{Some, slice_get, ◌-◌}
use Rattle.std.specs.Int.{bit_at}
use Rattle.std.specs.declared.cmp.Ordering.{Ordering}
use Rattle.std.specs.Ordering.{nat_cmp, then_cmp, on, eq_by_cmp}
use Rattle.oct_code.specs.declared.limits.TheConstants.{MAX_DIGITS}
use Rattle.std.specs.Cmp.Lexicographic.{slice_cmp}

-- d0.d1d2..dk: the head d0, and the digits after the point
pub record Code : Type 0 where
  pub head : ℕ
  pub digits : List ℕ

-- k
abbrev pub len : Code → ℕ
len c = length c.digits

-- d_r, which is 0 beyond k
abbrev pub digit : Code → ℕ → ℕ
digit c r = slice_index (c.head ∷ c.digits) r

-- r beans may be removed so that this many heaps are left: 1, 2 or 4 is present in d_r
abbrev pub allows : Code → ℕ → ℕ → Bool
allows c r heaps = bit_at (digit c r) heaps == 1

-- the head is 0 or 4, and the digits are those of 0 to 7, of which the last is not 0
pub record IsCode (c : Code) : Type 0 where
  pub head : (c.head ≡ 0) ⊎ (c.head ≡ 4)
  pub len : length c.digits ≤ MAX_DIGITS
  pub octal : All (λ d. d ≤ 7) c.digits
  pub last : slice_get c.digits (length c.digits - 1) ≢ Some 0

-- by head, then by k, then by the digits
abbrev pub code_cmp : Code → Code → Ordering
code_cmp = then_cmp (on (λ c. c.head) nat_cmp) (then_cmp (on len nat_cmp) (on (λ c. c.digits) (slice_cmp nat_cmp)))

abbrev pub code_eq : Code → Code → Bool
code_eq = eq_by_cmp code_cmp
