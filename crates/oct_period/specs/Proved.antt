-- A claim that the blocks of its game prove.
use Rattle.std.specs.Prelude.{◌≡◌, List, Option, Some, None}
use Rattle.oct_code.specs.Code.{Code}
use Rattle.oct_ops.specs.Operation.{Block, Period}
use Rattle.oct_period.specs.Claims.{Claim}
use Rattle.oct_period.specs.Periods.{period_status}
use Rattle.oct_period.specs.declared.status.PeriodStatus.TheVariants.{Proved}

pub record IsProvedOf (c : Code) (blocks : List Block) (p : Period) : Type 0 where
  pub game : p.code ≡ c
  pub proved : period_status blocks p ≡ Proved

-- the claim, if there is one, is of the game and proved
abbrev pub IsProvedBy : Code → List Block → Option Claim → Type 0
IsProvedBy c blocks None = Unit {0}
IsProvedBy c blocks (Some claim) = IsProvedOf c blocks claim.1
