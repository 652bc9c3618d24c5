use Rattle.census_issue.proofs.Growing.{extended_is_known}
use Rattle.census_issue.proofs.laws.extended_is_known.Goals as goal

pub returns : goal.returns
returns c = extended_is_known
