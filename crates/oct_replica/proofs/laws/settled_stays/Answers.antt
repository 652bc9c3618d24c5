use Rattle.oct_replica.proofs.Lines as lines
use Rattle.oct_replica.proofs.Settled as settled
use Rattle.oct_replica.proofs.laws.settled_stays.Goals as goal

pub returns : goal.returns
returns c = record { blocks = settled.settled_blocks_stay; claims = settled.settled_claims_stay; block_lines = lines.block_lines_stay; claim_lines = lines.claim_lines_stay }
