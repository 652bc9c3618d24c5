-- What blocks of claimed values make known.
use Rattle.std.specs.Prelude.{◌≡◌, ℕ, zero, suc, ◌+◌, ◌-◌, ◌<◌, ◌≤◌, Bool, true, false, ◌&&◌, ◌==◌, nat_le, nat_lt, max, IsTrue, List, [], ◌∷◌, length, slice_index, Option, Some, None, is_none}
use Rattle.std.specs.List.{list_any}
use Rattle.oct_code.specs.Code.{Code}
use Rattle.oct_mex.specs.NimValues.{nim_value}
use Rattle.oct_ops.specs.Operation.{Block}
use Rattle.oct_verify.specs.declared.status.Status.{Status}
use Rattle.oct_verify.specs.declared.status.Status.TheVariants.{Proved, Refuted, Pending}

-- the least wrong place of values that are claimed from n on
abbrev pub first_wrong : Code → ℕ → List ℕ → Option ℕ
first_wrong c n [] = None
first_wrong c n (v ∷ vs) = elim (v == nim_value c n) [ true ↦ first_wrong c (n + 1) vs | false ↦ Some n ]

-- each of its values is the heap's nim-value
abbrev pub is_true : Block → Bool
is_true b = is_none (first_wrong b.code b.start b.values)

-- one past its last place
abbrev pub end : Block → ℕ
end b = b.start + length b.values

abbrev pub has_place : Block → ℕ → Bool
has_place b n = nat_le b.start n && nat_lt n (end b)

-- a true block has the place
abbrev pub shows : ℕ → Block → Bool
shows n b = elim (has_place b n) [ true ↦ is_true b | false ↦ false ]

abbrev pub is_shown : List Block → ℕ → Bool
is_shown blocks n = list_any (shows n) blocks

-- the first number from n on that fails the test, if one of the next `tries` does
abbrev pub first_failing : (ℕ → Bool) → ℕ → ℕ → ℕ
first_failing test zero n = n
first_failing test (suc tries) n = elim (test n) [ true ↦ first_failing test tries (n + 1) | false ↦ n ]

-- past all places of the blocks
abbrev pub reach : List Block → ℕ
reach [] = 0
reach (b ∷ blocks) = max (end b) (reach blocks)

-- the first place from 1 on that no true block has
abbrev pub known : List Block → ℕ
known blocks = first_failing (is_shown blocks) (reach blocks) 1

-- what the known length is: the greatest m ≥ 1 such that a true block has each place from 1 to m - 1
pub record IsKnownLength (blocks : List Block) (m : ℕ) : Type 0 where
  pub some : 1 ≤ m
  pub shown : (n : ℕ) → 1 ≤ n → n < m → IsTrue (is_shown blocks n)
  pub greatest : is_shown blocks m ≡ false

-- proved, or refuted at its least wrong place
abbrev pub verdict_at : Block → Option ℕ → Status
verdict_at b None = Proved
verdict_at b (Some n) = Refuted n (slice_index b.values (n - b.start)) (nim_value b.code n)

abbrev pub verdict : Block → Status
verdict b = verdict_at b (first_wrong b.code b.start b.values)

-- pending if it starts past the known length
abbrev pub status : List Block → Block → Status
status blocks b = elim (nat_lt (known blocks) b.start) [ true ↦ Pending | false ↦ verdict b ]
