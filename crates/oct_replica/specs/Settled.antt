-- What is proved or refuted stays so when operations are added.
use Rattle.std.specs.Prelude.{◌≡◌, ◌≢◌, ℕ, List, map}
use Rattle.std.specs.List.{IsAmong}
use Rattle.oct_code.specs.Code.{Code}
use Rattle.oct_ops.specs.Operation.{Dot, Block, Period}
use Rattle.oct_ops.specs.Operations.{Operations, IsSubset, listed}
use Rattle.oct_ops.specs.Valid.{IsPeriod}
pub use Rattle.oct_record.specs.Valid.{AreValid}
use Rattle.oct_verify.specs.declared.status.Status.{Status}
use Rattle.oct_verify.specs.declared.status.Status.TheVariants as of_block
use Rattle.oct_period.specs.FarBlocks.{block_status}
use Rattle.oct_period.specs.Periods.{period_status}
use Rattle.oct_period.specs.declared.status.PeriodStatus.{PeriodStatus}
use Rattle.oct_period.specs.declared.status.PeriodStatus.TheVariants as of_claim
use Rattle.oct_pages.specs.Catalogue.{blocks_of, claims_of, block_line, period_line, lines}

-- the blocks of a game in a set
abbrev pub blocks_in : Code → Operations → List Block
blocks_in c ops = map (λ (b : Dot × Block). b.1) (blocks_of c (listed ops))

-- its period claims
abbrev pub claims_in : Code → Operations → List Period
claims_in c ops = map (λ (p : Dot × Period). p.1) (claims_of c (listed ops))

-- what is proved stays proved, and what is refuted stays refuted at the same place
pub record BlockStays (now later : Status) : Type 0 where
  pub proved : now ≡ of_block.Proved → later ≡ of_block.Proved
  pub refuted : (place claimed truth : ℕ) → now ≡ of_block.Refuted place claimed truth → later ≡ of_block.Refuted place claimed truth

pub record ClaimStays (now later : PeriodStatus) : Type 0 where
  pub proved : now ≡ of_claim.Proved → later ≡ of_claim.Proved
  pub refuted : (place : ℕ) → now ≡ of_claim.Refuted place → later ≡ of_claim.Refuted place

abbrev pub SettledBlocksStay : Type 0
SettledBlocksStay = (ops more : Operations) (c : Code) (b : Block) → AreValid ops → IsSubset ops more →
    BlockStays (block_status (blocks_in c ops) (claims_in c ops) b) (block_status (blocks_in c more) (claims_in c more) b)

abbrev pub SettledClaimsStay : Type 0
SettledClaimsStay = (ops more : Operations) (c : Code) (p : Period) → IsPeriod p → IsSubset ops more → ClaimStays (period_status (blocks_in c ops) p) (period_status (blocks_in c more) p)

-- the line of a block that is not pending stays in the catalogue
abbrev pub BlockLinesStay : Type 0
BlockLinesStay = (ops more : Operations) (c : Code) (b : Dot × Block) → AreValid ops → IsSubset ops more → IsAmong (blocks_of c (listed ops)) b →
    block_status (blocks_in c ops) (claims_in c ops) b.1 ≢ of_block.Pending → IsAmong (lines (listed more)) (block_line (blocks_in c ops) (claims_in c ops) b)

-- and the line of a claim that is not pending
abbrev pub ClaimLinesStay : Type 0
ClaimLinesStay = (ops more : Operations) (c : Code) (p : Dot × Period) → IsPeriod p.1 → IsSubset ops more → IsAmong (claims_of c (listed ops)) p →
    ((needs : ℕ) → period_status (blocks_in c ops) p.1 ≢ of_claim.Pending needs) → IsAmong (lines (listed more)) (period_line (blocks_in c ops) p)
