-- What a table of games says of each.
use Rattle.std.specs.Prelude.{ℕ, Bool, true, false, not, ◌&&◌, ◌||◌, nat_lt, List, length, count_by, Option, Some, None}
use Rattle.std.specs.List.{filter_map}
use Rattle.std.specs.Ordering.{nat_cmp, then_cmp, on}
use Rattle.std.specs.declared.cmp.Ordering.{Ordering}
use Rattle.oct_code.specs.Code.{Code, code_cmp}
use Rattle.oct_ops.specs.Arranged.{arranged}
use Rattle.oct_ops.specs.Body.{Operation}
use Rattle.oct_ops.specs.Operation.{Period}
use Rattle.oct_pages.specs.declared.statuses.BlockRow.{BlockRow}
use Rattle.oct_pages.specs.declared.statuses.PeriodRow.{PeriodRow}
use Rattle.oct_period.specs.declared.status.PeriodStatus.{PeriodStatus}
use Rattle.oct_period.specs.declared.status.PeriodStatus.TheVariants as of_claim
use Rattle.oct_said.specs.Dots.{is_withdrawn}
use Rattle.oct_verify.specs.declared.status.Status.{Status}
use Rattle.oct_verify.specs.declared.status.Status.TheVariants as of_block
use Rattle.oct_sheet.specs.Sheet.{GameSheet}
use Rattle.oct_sheet.specs.declared.summary.Summary.{Summary}
use Rattle.oct_sheet.specs.declared.summary.GameTally.{GameTally}
use Rattle.oct_sheet.specs.declared.periodic.Periodic.{Periodic}

-- ---- how many are proved, refuted and pending

abbrev pub block_proved : Status → Bool
block_proved of_block.Proved = true
block_proved (of_block.Refuted heap claimed truth) = false
block_proved of_block.Pending = false

abbrev pub block_refuted : Status → Bool
block_refuted of_block.Proved = false
block_refuted (of_block.Refuted heap claimed truth) = true
block_refuted of_block.Pending = false

abbrev pub block_pending : Status → Bool
block_pending of_block.Proved = false
block_pending (of_block.Refuted heap claimed truth) = false
block_pending of_block.Pending = true

abbrev pub claim_proved : PeriodStatus → Bool
claim_proved of_claim.Proved = true
claim_proved (of_claim.Refuted heap) = false
claim_proved (of_claim.Pending count) = false

abbrev pub claim_refuted : PeriodStatus → Bool
claim_refuted of_claim.Proved = false
claim_refuted (of_claim.Refuted heap) = true
claim_refuted (of_claim.Pending count) = false

abbrev pub claim_pending : PeriodStatus → Bool
claim_pending of_claim.Proved = false
claim_pending (of_claim.Refuted heap) = false
claim_pending (of_claim.Pending count) = true

-- how many blocks, and how many claims, have such a status
abbrev pub blocks_with : (Status → Bool) → List BlockRow → ℕ
blocks_with p blocks = count_by (λ r. p r.status) blocks

abbrev pub claims_with : (PeriodStatus → Bool) → List PeriodRow → ℕ
claims_with p claims = count_by (λ r. p r.status) claims

-- which of those that are refuted stand, by these notes, and which are withdrawn
abbrev pub block_stands_refuted : List Operation → BlockRow → Bool
block_stands_refuted notes r = block_refuted r.status && not (is_withdrawn notes r.dot)

abbrev pub block_is_withdrawn : List Operation → BlockRow → Bool
block_is_withdrawn notes r = block_refuted r.status && is_withdrawn notes r.dot

abbrev pub claim_stands_refuted : List Operation → PeriodRow → Bool
claim_stands_refuted notes r = claim_refuted r.status && not (is_withdrawn notes r.dot)

abbrev pub claim_is_withdrawn : List Operation → PeriodRow → Bool
claim_is_withdrawn notes r = claim_refuted r.status && is_withdrawn notes r.dot

-- what is proved or pending counts as such, whether or not it is withdrawn
abbrev pub block_tally : List Operation → List BlockRow → GameTally
block_tally notes blocks = record {
  proved = blocks_with block_proved blocks;
  refuted = count_by (block_stands_refuted notes) blocks;
  withdrawn = count_by (block_is_withdrawn notes) blocks;
  pending = blocks_with block_pending blocks;
}

abbrev pub claim_tally : List Operation → List PeriodRow → GameTally
claim_tally notes claims = record {
  proved = claims_with claim_proved claims;
  refuted = count_by (claim_stands_refuted notes) claims;
  withdrawn = count_by (claim_is_withdrawn notes) claims;
  pending = claims_with claim_pending claims;
}

-- ---- a game

-- how many heaps are known, the period that is proved, and the blocks and claims, of which some are withdrawn by these notes
abbrev pub summary_of : List Operation → GameSheet → Summary
summary_of notes g = record { code = g.code; known = length g.values; proved = g.proved; blocks = block_tally notes g.blocks; claims = claim_tally notes g.periods }

-- a block or a claim is refuted, and not withdrawn
abbrev pub is_refuted : Summary → Bool
is_refuted s = nat_lt 0 s.blocks.refuted || nat_lt 0 s.claims.refuted

-- a block or a claim is refuted, and withdrawn
abbrev pub has_withdrawn : Summary → Bool
has_withdrawn s = nat_lt 0 s.blocks.withdrawn || nat_lt 0 s.claims.withdrawn

-- ---- the games by their periods

abbrev pub periodic_by : Code → Option Period → Option Periodic
periodic_by c None = None
periodic_by c (Some p) = Some (record { period = p.period; start = p.start; code = c })

abbrev pub periodic_of : Summary → Option Periodic
periodic_of s = periodic_by s.code s.proved

-- by period, then by start, then by code
abbrev pub periodic_cmp : Periodic → Periodic → Ordering
periodic_cmp = then_cmp (on (λ p. p.period) nat_cmp) (then_cmp (on (λ p. p.start) nat_cmp) (on (λ p. p.code) code_cmp))

abbrev pub by_period : List Summary → List Periodic
by_period rows = arranged periodic_cmp (filter_map periodic_of rows)
