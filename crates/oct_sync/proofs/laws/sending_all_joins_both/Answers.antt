use Rattle.oct_sync.proofs.Exchange.{all_is_exchanged, both_end_with_all}
use Rattle.oct_sync.proofs.laws.sending_all_joins_both.Goals as goal

pub returns-clause-both : goal.returns-clause-both
returns-clause-both c = both_end_with_all

pub returns-clause-answered : goal.returns-clause-answered
returns-clause-answered c = all_is_exchanged
