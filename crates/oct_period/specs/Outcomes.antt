-- Who wins a position whose nim-value is known.
use Rattle.std.specs.Prelude.{◌≡◌, ◌↔◌, ℕ, ◌==◌, Bool, true, false, not, List, Result, Ok, Err, IsOk}
use Rattle.oct_code.specs.Code.{Code}
use Rattle.oct_ops.specs.Operation.{Block, Period}
use Rattle.oct_period.specs.Periods.{position_value}
use Rattle.oct_period.specs.Winning.{wins}
use Rattle.oct_period.specs.declared.winner.Outcome.{Outcome}
use Rattle.oct_period.specs.declared.winner.Outcome.TheVariants as who
use Rattle.oct_period.specs.declared.unknown.Unknown.{Unknown}

abbrev pub winner : Bool → Outcome
winner true = who.NextWins
winner false = who.NextLoses

abbrev pub outcome_by : Code → List ℕ → Result ℕ Unknown → Outcome
outcome_by c heaps (Ok value) = winner (wins c heaps)
outcome_by c heaps (Err unknown) = who.Unknown unknown.index

-- by the moves alone, where the nim-values of all heaps are known
abbrev pub outcome : Code → List Block → List Period → List ℕ → Outcome
outcome c blocks claims heaps = outcome_by c heaps (position_value c blocks claims heaps)

-- by the nim-value of the position alone
abbrev pub outcome_by_value : Result ℕ Unknown → Outcome
outcome_by_value (Ok value) = winner (not (value == 0))
outcome_by_value (Err unknown) = who.Unknown unknown.index

-- what an outcome says of a position of this value: the player to move wins, or does not, by the moves alone, and else the
-- heap is named whose nim-value is not known
pub record IsOutcomeOf (c : Code) (heaps : List ℕ) (value : Result ℕ Unknown) (o : Outcome) : Type 0 where
  pub loses : (o ≡ who.NextLoses) ↔ (IsOk value × (wins c heaps ≡ false))
  pub wins : (o ≡ who.NextWins) ↔ (IsOk value × (wins c heaps ≡ true))
  pub unknown : (index : ℕ) → (o ≡ who.Unknown index) ↔ (value ≡ Err (record { index = index }))
