use Rattle.oct_sync.proofs.Cutting.{any_cutting}
use Rattle.oct_sync.proofs.laws.bytes_may_be_cut_anywhere.Goals as goal

pub returns : goal.returns
returns c = any_cutting
