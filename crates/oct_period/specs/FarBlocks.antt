-- What is known of a block by the blocks and claims of its game: a proved claim settles blocks past the known length.
use Rattle.std.specs.Prelude.{Bool, true, false, not, ◌&&◌, nat_lt, List}
use Rattle.std.specs.List.{list_any}
use Rattle.oct_ops.specs.Operation.{Block, Period}
use Rattle.oct_verify.specs.Known.{known, verdict}
use Rattle.oct_verify.specs.declared.status.Status.{Status}
use Rattle.oct_verify.specs.declared.status.Status.TheVariants.{Pending}
use Rattle.oct_period.specs.Periods.{is_proved, period_status}

-- some claim is proved
abbrev pub has_proved : List Block → List Period → Bool
has_proved blocks claims = list_any (λ p. is_proved (period_status blocks p)) claims

-- pending if the block starts past the known length and no claim is proved, else proved, or refuted at its least wrong
-- place
abbrev pub block_status : List Block → List Period → Block → Status
block_status blocks claims b = elim (nat_lt (known blocks) b.start && not (has_proved blocks claims)) [ true ↦ Pending | false ↦ verdict b ]
