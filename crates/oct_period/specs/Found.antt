-- The period that is found among the known nim-values of a game.
use Rattle.std.specs.Prelude.{◌≡◌, ℕ, ◌≤◌, List, map, Option, Some, None}
use Rattle.std.specs.List.{find, flat_map, range_with_len}
use Rattle.oct_code.specs.Code.{Code}
use Rattle.oct_ops.specs.Faults.{period_fault}
use Rattle.oct_ops.specs.Operation.{Block, Period, repeating}
use Rattle.oct_verify.specs.Known.{known}
use Rattle.oct_period.specs.Periods.{is_proved, period_status}
use Rattle.oct_period.specs.Proved.{IsProvedOf}

-- the claims of a period, from each heap up to `count` on
abbrev pub claims_with : Code → ℕ → ℕ → List Period
claims_with c count period = map (λ start. repeating c start period) (range_with_len 1 count)

-- the claims of all periods up to `count`, by the period, then by the start
abbrev pub claims_up_to : Code → ℕ → List Period
claims_up_to c count = flat_map (claims_with c count) (range_with_len 1 count)

-- the first of them that the blocks prove; no claim is proved by fewer nim-values than its start or its period
abbrev pub found_period : Code → List Block → Option Period
found_period c blocks = find (λ p. is_proved (period_status blocks p)) (claims_up_to c (known blocks))

-- a claim of the game that may be issued, and that the blocks prove
pub record IsProvable (c : Code) (blocks : List Block) (p : Period) : Type 0 where
  pub faultless : period_fault p ≡ None
  pub proved : IsProvedOf c blocks p

-- of all such claims one with the least period, and of these the one with the least start
pub record IsLeastPeriod (c : Code) (blocks : List Block) (p : Period) : Type 0 where
  pub provable : IsProvable c blocks p
  pub least : (q : Period) → IsProvable c blocks q → p.period ≤ q.period
  pub earliest : (q : Period) → IsProvable c blocks q → q.period ≡ p.period → p.start ≤ q.start

-- the least period, and none where no claim is proved
abbrev pub IsFoundPeriod : Code → List Block → Option Period → Type 0
IsFoundPeriod c blocks None = (q : Period) → ¬ IsProvable c blocks q
IsFoundPeriod c blocks (Some p) = IsLeastPeriod c blocks p
