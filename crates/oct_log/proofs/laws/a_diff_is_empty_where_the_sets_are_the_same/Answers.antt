use Rattle.oct_log.proofs.Differing.{empty_of_the_same, the_same_is_empty}
use Rattle.oct_log.proofs.laws.a_diff_is_empty_where_the_sets_are_the_same.Goals as goal

pub returns-clause-same : goal.returns-clause-same
returns-clause-same c = empty_of_the_same

pub returns-clause-empty : goal.returns-clause-empty
returns-clause-empty c = the_same_is_empty
