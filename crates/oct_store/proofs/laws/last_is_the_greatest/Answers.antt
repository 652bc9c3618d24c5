use Rattle.oct_store.proofs.Greatest.{is_last}
use Rattle.oct_store.proofs.laws.last_is_the_greatest.Goals as goal

pub returns : goal.returns
returns c = is_last
