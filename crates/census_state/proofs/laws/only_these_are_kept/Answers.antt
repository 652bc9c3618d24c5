use Rattle.census_state.proofs.SomeGames.{only_is_kept}
use Rattle.census_state.proofs.laws.only_these_are_kept.Goals as goal

pub returns : goal.returns
returns c = only_is_kept
