-- What blocks show of a period claim, and which nim-values follow.
use Rattle.std.specs.Prelude.{ℕ, zero, suc, ◌+◌, ◌-◌, ◌*◌, ◌%◌, Bool, true, false, ◌==◌, nat_le, nat_lt, bit_xor, List, [], ◌∷◌, Option, Some, None, Result, Ok, Err}
use Rattle.std.specs.List.{find}
use Rattle.oct_code.specs.Code.{Code, len}
use Rattle.oct_mex.specs.NimValues.{nim_value}
use Rattle.oct_ops.specs.Operation.{Block, Period}
use Rattle.oct_verify.specs.Known.{known}
use Rattle.oct_period.specs.declared.status.PeriodStatus.{PeriodStatus}
use Rattle.oct_period.specs.declared.status.PeriodStatus.TheVariants.{Proved, Refuted, Pending}
use Rattle.oct_period.specs.declared.unknown.Unknown.{Unknown}

-- the first of `count` heaps from n on whose nim-value does not come again one period later
abbrev pub first_break : Code → ℕ → ℕ → ℕ → Option ℕ
first_break c period zero n = None
first_break c period (suc count) n = elim (nim_value c (n + period) == nim_value c n) [ true ↦ first_break c period count (n + 1) | false ↦ Some n ]

-- how many known nim-values prove the claim
abbrev pub needs : Period → ℕ
needs p = 2 * p.start + 2 * p.period + len p.code

-- the claim's status where none of the k known nim-values breaks it
abbrev pub unbroken : ℕ → Period → PeriodStatus
unbroken k p = elim (nat_le (needs p) k) [ true ↦ Proved | false ↦ Pending (needs p) ]

abbrev pub status_at : ℕ → Period → Option ℕ → PeriodStatus
status_at k p None = unbroken k p
status_at k p (Some n) = Refuted n

-- refuted at the first break among the known nim-values, else proved if they are enough, else pending
abbrev pub period_status : List Block → Period → PeriodStatus
period_status blocks p =
    let k = known blocks in
    status_at k p (first_break p.code p.period (k - (p.start + p.period)) p.start)

abbrev pub is_proved : PeriodStatus → Bool
is_proved Proved = true
is_proved (Refuted n) = false
is_proved (Pending n) = false

-- the nim-value of a heap by a claim: that of the heap in the first period
abbrev pub value_by : Code → ℕ → Option Period → Option ℕ
value_by c n None = None
value_by c n (Some p) = Some (nim_value c (p.start + (n - p.start) % p.period))

-- the nim-value of a heap: its own below the known length, else by the claim
abbrev pub heap_value_by : Code → List Block → Option Period → ℕ → Option ℕ
heap_value_by c blocks claim n = elim (nat_lt n (known blocks)) [ true ↦ Some (nim_value c n) | false ↦ value_by c n claim ]

-- by the first proved claim
abbrev pub heap_value : Code → List Block → List Period → ℕ → Option ℕ
heap_value c blocks claims = heap_value_by c blocks (find (λ p. is_proved (period_status blocks p)) claims)

abbrev pub xor_onto : ℕ → Result ℕ Unknown → Result ℕ Unknown
xor_onto v (Ok w) = Ok (bit_xor v w)
xor_onto v (Err u) = Err u

-- the heaps from place i on: the exclusive or of their nim-values, or the first that has none
abbrev pub position_value_from : (ℕ → Option ℕ) → ℕ → List ℕ → Result ℕ Unknown
position_value_from value i [] = Ok 0
position_value_from value i (n ∷ heaps) = elim (value n) [ None ↦ Err (record { index = i }) | Some v ↦ xor_onto v (position_value_from value (i + 1) heaps) ]

abbrev pub position_value : Code → List Block → List Period → List ℕ → Result ℕ Unknown
position_value c blocks claims = position_value_from (heap_value c blocks claims) 0
