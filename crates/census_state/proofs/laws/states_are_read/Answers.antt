use Rattle.census_state.proofs.StoredStates.{states_read}
use Rattle.census_state.proofs.laws.states_are_read.Goals as goal

pub returns : goal.returns
returns c = states_read c.texts_are_read.ensures
