use Rattle.oct_store.proofs.Throughs.{is_through}
use Rattle.oct_store.proofs.laws.through_ends_at_a_gap.Goals as goal

pub returns : goal.returns
returns c = is_through
