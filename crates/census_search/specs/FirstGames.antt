-- A game of which the first nim-values are known, and the period that they prove.
use Rattle.std.specs.Prelude.{◌≡◌, ℕ, ◌≤◌, false, List, [], ◌∷◌, Option, Some, None, Result}
use Rattle.oct_code.specs.Code.{Code}
use Rattle.oct_mex.specs.NimValues.{nim_values}
use Rattle.oct_ops.specs.Operation.{Block, Period, claimed}
use Rattle.oct_period.specs.Claims.{claims_in}
use Rattle.oct_period.specs.Found.{found_period}
use Rattle.oct_period.specs.GameContent.{GameContent}
use Rattle.oct_period.specs.Moving.{winning_move}
use Rattle.oct_period.specs.Periods.{position_value}
use Rattle.oct_period.specs.declared.moving.Move.{Move}
use Rattle.oct_period.specs.declared.unknown.Unknown.{Unknown}
use Rattle.oct_verify.specs.Filing.{blocks_in}
use Rattle.oct_verify.specs.Known.{is_shown, known}

-- a block of the first `count` nim-values
abbrev pub first_values : Code → ℕ → List Block
first_values c count = claimed c 0 (nim_values c count) ∷ []

-- the least period that they prove, from the least heap on; none where they prove none
abbrev pub proved_period : Code → ℕ → Option Period
proved_period c count = found_period c (first_values c count)

abbrev pub listed_if : Option Period → List Period
listed_if None = []
listed_if (Some p) = p ∷ []

-- the claim of that period
abbrev pub proved_claims : Code → ℕ → List Period
proved_claims c count = listed_if (proved_period c count)

-- ---- what follows from these

-- the value of a position
abbrev pub first_value : Code → ℕ → List ℕ → Result ℕ Unknown
first_value c count = position_value c (first_values c count) (proved_claims c count)

-- and the first winning move
abbrev pub first_move : Code → ℕ → List ℕ → Result (Option Move) Unknown
first_move c count = winning_move c (first_values c count) (proved_claims c count)

-- ---- while the values are put in

-- the blocks show no place from the known length on
abbrev pub EndsAtKnown : List Block → Type 0
EndsAtKnown blocks = (n : ℕ) → known blocks ≤ n → is_shown blocks n ≡ false

-- so many values are known of the game, and no more are said
pub record IsKnownTo (c : Code) (count : ℕ) (game : GameContent) : Type 0 where
  pub code : game.code ≡ c
  pub length : known (blocks_in game.blocks) ≡ count
  pub end : EndsAtKnown (blocks_in game.blocks)

-- and the period that they prove is claimed
pub record IsFirstGame (c : Code) (count : ℕ) (game : GameContent) : Type 0 where
  pub code : game.code ≡ c
  pub length : known (blocks_in game.blocks) ≡ count
  pub claims : claims_in game.claims ≡ proved_claims c count
