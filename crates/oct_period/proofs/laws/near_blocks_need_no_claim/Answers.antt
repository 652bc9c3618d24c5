use Rattle.oct_period.proofs.FarLaws as far
use Rattle.oct_period.proofs.laws.near_blocks_need_no_claim.Goals as goal

pub returns : goal.returns
returns c = record { none = far.status_by_blocks; near = far.near_status_by_blocks }
