-- What holds of the statuses of blocks by blocks and claims.
use Rattle.std.specs.Prelude.{◌≡◌, ◌≢◌, ◌≤◌, List, []}
use Rattle.std.specs.List.{All, Contains}
use Rattle.oct_ops.specs.Operation.{Block, Period}
use Rattle.oct_period.specs.FarBlocks.{block_status}
use Rattle.oct_period.specs.Laws.{IsLater}
use Rattle.oct_verify.specs.Known.{known, status}
use Rattle.oct_verify.specs.Laws.{AreAmong}
use Rattle.oct_verify.specs.declared.status.Status.TheVariants.{Pending}

-- without claims the status is that by the blocks alone
abbrev pub StatusByBlocks : Type 0
StatusByBlocks = (blocks : List Block) (b : Block) → block_status blocks [] b ≡ status blocks b

-- and so it is where the block starts at or below the known length
abbrev pub NearStatusByBlocks : Type 0
NearStatusByBlocks = (blocks : List Block) (claims : List Period) (b : Block) → b.start ≤ known blocks → block_status blocks claims b ≡ status blocks b

-- each claim of the one list is one of the other
abbrev pub ClaimsAreAmong : List Period → List Period → Type 0
ClaimsAreAmong some all = (p : Period) → Contains some p → Contains all p

-- what is proved or refuted stays so, at the same place and with the same values, however many blocks and claims there are
-- more
abbrev pub SettledBlocksStay : Type 0
SettledBlocksStay = (some all : List Block) (claims more : List Period) (b : Block) → AreAmong some all → ClaimsAreAmong claims more → All IsLater claims
    → block_status some claims b ≢ Pending → block_status all more b ≡ block_status some claims b
