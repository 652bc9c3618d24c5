use Rattle.oct_sync.proofs.Exchange.{gift_is_exchanged, server_ends_with_all, server_takes_missing}
use Rattle.oct_sync.proofs.Giving.{giver_stays}
use Rattle.oct_sync.proofs.laws.giving_joins_the_server_alone.Goals as goal

pub returns-clause-missing : goal.returns-clause-missing
returns-clause-missing c = server_takes_missing

pub returns-clause-all : goal.returns-clause-all
returns-clause-all c = server_ends_with_all

pub returns-clause-answered : goal.returns-clause-answered
returns-clause-answered c = gift_is_exchanged

pub returns-clause-stays : goal.returns-clause-stays
returns-clause-stays c = giver_stays
