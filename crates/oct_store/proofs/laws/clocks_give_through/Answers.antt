use Rattle.oct_store.proofs.Greatest.{clock_of-is}
use Rattle.oct_store.proofs.laws.clocks_give_through.Goals as goal

pub returns : goal.returns
returns c = clock_of-is
